-- What public contracts say.
pub mod Inner
