-- What public contracts say.
pub mod Places
-- For private contracts and proofs.
pub mod Filled
