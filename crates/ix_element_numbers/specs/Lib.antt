-- What public contracts say.
pub mod Numbers
pub mod Laws
