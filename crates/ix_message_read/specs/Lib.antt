pub mod Tells
pub mod Structs
