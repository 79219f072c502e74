-- What public contracts say.
pub mod Hierarchy
pub mod Walk
pub mod Nets
pub mod Pins
pub mod FlatDesign
pub mod Broken
pub mod Fits
-- What the steps of flattening hand on, for contracts between crates.
pub mod Lists
