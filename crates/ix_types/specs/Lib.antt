-- What public contracts say.
-- For private contracts and proofs.
pub mod Known
