pub mod Found
pub mod Keyed
