pub mod OptionWords
pub mod Keeping
pub mod Walking
pub mod Asking
