pub mod Places
pub mod Sums
pub mod Instances
pub mod Spots
pub mod Counting
pub mod Whole
