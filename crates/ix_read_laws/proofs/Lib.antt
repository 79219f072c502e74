pub mod NamedFits
pub mod MoreNames
pub mod MoreFlats
