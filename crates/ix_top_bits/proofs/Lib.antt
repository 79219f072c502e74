pub mod Slices
pub mod Places
pub mod Pushing
pub mod Cells
pub mod Found
