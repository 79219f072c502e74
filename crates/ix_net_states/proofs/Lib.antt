pub mod Basics
pub mod Sets
pub mod OneNet
pub mod Adding
pub mod Least
pub mod Done
pub mod Walks
