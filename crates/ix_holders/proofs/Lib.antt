pub mod Marking
pub mod Sharing
pub mod Netting
pub mod Counting
pub mod Ending
