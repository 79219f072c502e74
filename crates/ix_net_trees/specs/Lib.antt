-- For private contracts and proofs.
pub mod Told
pub mod Wired
pub mod Constants
pub mod Seen
pub mod Met
pub mod Mapped
pub mod Known
