pub mod Finds
pub mod Leaves
pub mod Occurring
