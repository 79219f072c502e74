-- What public contracts say.
pub mod Items
