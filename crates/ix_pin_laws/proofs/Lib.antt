pub mod Items
pub mod Counting
pub mod Alike
pub mod Small
