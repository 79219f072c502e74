-- What public contracts say.
pub mod Listed
-- For private contracts and proofs.
pub mod Filled
