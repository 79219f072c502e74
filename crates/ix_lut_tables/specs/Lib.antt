-- What public contracts say.
pub mod Tables
