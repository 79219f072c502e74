pub mod BusBits
pub mod Ordered
pub mod Nets
pub mod Marks
