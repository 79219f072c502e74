-- What public contracts say.
pub mod Grid
