pub mod Order
pub mod Listing
pub mod Members
pub mod Together
pub mod Reached
