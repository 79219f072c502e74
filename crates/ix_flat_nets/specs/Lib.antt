-- What public contracts say.
pub mod Nets
