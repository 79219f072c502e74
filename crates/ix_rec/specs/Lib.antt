pub mod Forest
pub mod Maps
pub mod Ranges
