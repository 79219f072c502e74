pub mod Parts
pub mod Reached
pub mod Around
pub mod Chains
pub mod Pairs
pub mod Leasts
pub mod Crossing
pub mod Endings
