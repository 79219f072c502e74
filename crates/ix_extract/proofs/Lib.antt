pub mod Wires
pub mod Counting
pub mod Finding
pub mod Growing
pub mod Tabling
pub mod Fixing
pub mod Entries
pub mod Ranging
