pub mod Cuts
pub mod Bits
