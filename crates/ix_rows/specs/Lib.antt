-- What public contracts say.
pub mod Rows
-- For private contracts and proofs.
pub mod Layout
