pub mod Ending
pub mod Outputs
pub mod Implementing
pub mod Answering
pub mod Ports
pub mod Unconnected
pub mod Checking
