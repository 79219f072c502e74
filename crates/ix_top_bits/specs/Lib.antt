-- What public contracts say.
pub mod Given
