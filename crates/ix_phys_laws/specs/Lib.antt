-- What public contracts say.
pub mod Laws
