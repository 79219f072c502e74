pub mod Parts
pub mod Declared
pub mod Naming
