pub mod Based
pub mod Numbered
