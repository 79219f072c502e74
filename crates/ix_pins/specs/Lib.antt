-- What public contracts say.
pub mod Places
