pub mod OneFirst
pub mod Walked
pub mod NetFound
