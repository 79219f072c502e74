pub mod Slices
pub mod Reaching
pub mod Cutting
pub mod Parents
