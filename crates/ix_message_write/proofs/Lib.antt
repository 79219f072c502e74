pub mod FirstUses
pub mod Laid
pub mod Turns
pub mod RowLemmas
pub mod Whole
pub mod Steps
pub mod Fitting
