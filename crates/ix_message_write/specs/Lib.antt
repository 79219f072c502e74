pub mod Table
pub mod Growth
pub mod Says
