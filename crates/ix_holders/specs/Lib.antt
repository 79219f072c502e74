-- What public contracts say.
pub mod Holders
-- For private contracts and proofs.
pub mod Marks
