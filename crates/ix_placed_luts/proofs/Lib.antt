pub mod Elements
pub mod Sites
pub mod Holding
pub mod Functions
pub mod Placing
pub mod Tying
