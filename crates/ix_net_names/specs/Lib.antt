-- What public contracts say.
pub mod NetNames
