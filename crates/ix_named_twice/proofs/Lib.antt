pub mod Cells
pub mod Indexed
pub mod Nets
pub mod Order
pub mod Ports
pub mod Seconds
pub mod Told
