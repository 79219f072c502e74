-- What public contracts say.
pub mod Listed
