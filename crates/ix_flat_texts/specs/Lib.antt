-- What public contracts say.
pub mod Ways
