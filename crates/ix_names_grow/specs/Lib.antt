-- What public contracts say.
pub mod Grown
