pub mod Finds
pub mod Leaves
pub mod Occurring
pub mod Basics
pub mod Parents
pub mod Apart
pub mod Roles
pub mod PinFacts
