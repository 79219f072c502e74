-- What public contracts say.
pub mod Twice
-- For private contracts and proofs.
pub mod Spots
