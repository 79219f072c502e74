pub mod Gets
pub mod Ways
pub mod Reached
pub mod Numbered
pub mod Points
pub mod Records
