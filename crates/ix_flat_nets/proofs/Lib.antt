pub mod Chains
pub mod Cells
pub mod Made
pub mod Given
