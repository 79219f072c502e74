-- What public contracts say.
pub mod Constants
