pub mod Numbers
pub mod Marking
pub mod NodeConstants
pub mod Meeting
pub mod Nets
pub mod Parents
pub mod Mapping
pub mod Roots
