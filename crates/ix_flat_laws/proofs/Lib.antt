pub mod Maps
pub mod FlatMaps
pub mod Orders
pub mod Cells
pub mod Nets
pub mod Pins
pub mod Luts
pub mod Ranges
