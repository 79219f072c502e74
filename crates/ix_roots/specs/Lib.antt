-- What public contracts say.
pub mod Forest
