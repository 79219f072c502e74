pub mod Filling
pub mod Starting
