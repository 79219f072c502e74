pub mod Joins
pub mod Along
pub mod Named
pub mod Way
