-- What public contracts say.
pub mod Checked
-- For private contracts and proofs.
pub mod Wrong
