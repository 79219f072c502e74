pub mod Parts
pub mod Found
pub mod Marking
pub mod Past
pub mod Going
pub mod Having
