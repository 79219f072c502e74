-- What public contracts say.
pub mod Asked
