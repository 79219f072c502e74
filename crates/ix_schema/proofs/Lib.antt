pub mod Sound
pub mod Steps
pub mod BranchLemmas
pub mod Splits
pub mod Walks
pub mod Stacks
pub mod Messages
pub mod Names
