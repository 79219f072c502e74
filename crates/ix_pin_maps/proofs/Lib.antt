pub mod InputLemmas
pub mod Admission
pub mod Fitting
pub mod Walk
