pub mod Fresh
pub mod ValidNames
pub mod Leading
pub mod Keeping
