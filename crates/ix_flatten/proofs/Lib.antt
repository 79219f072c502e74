pub mod Leaves
pub mod Tables
pub mod FlatOf
pub mod Names
pub mod Asked
pub mod Whole
