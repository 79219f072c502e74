pub mod Ending
pub mod Filling
pub mod Items
pub mod Laying
pub mod Giving
pub mod Pairing
pub mod There
