-- What public contracts say.
pub mod Least
pub mod Walking
