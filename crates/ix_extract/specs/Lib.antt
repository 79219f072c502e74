-- What public contracts say.
pub mod Extracted
-- For private contracts and proofs.
pub mod Taken
