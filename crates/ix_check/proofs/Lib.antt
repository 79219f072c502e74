pub mod Functions
pub mod Differing
pub mod Telling
