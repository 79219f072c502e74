-- What public contracts say.
pub mod Range
pub mod Whole
