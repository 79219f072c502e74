-- What public contracts say.
pub mod Listed
pub mod Naming
