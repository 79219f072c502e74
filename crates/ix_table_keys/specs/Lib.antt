-- What public contracts say.
pub mod Laws
pub mod Places
pub mod Tables
