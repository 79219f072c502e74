pub mod Writes
pub mod Opens
pub mod Objects
