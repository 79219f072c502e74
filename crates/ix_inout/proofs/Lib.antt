pub mod Parts
pub mod Reached
pub mod Ports
pub mod Leaves
pub mod Firsts
pub mod Walks
