pub mod Basics
pub mod OneNet
pub mod Refs
pub mod Adding
pub mod RowPins
pub mod PortPins
pub mod Ready
