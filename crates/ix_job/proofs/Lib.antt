pub mod Setting
pub mod FaultLines
pub mod Ending
pub mod Complete
