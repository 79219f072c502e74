-- What public contracts say.
pub mod PinRows
