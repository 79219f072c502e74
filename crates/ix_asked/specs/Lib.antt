-- What public contracts say.
pub mod Faults
-- For private contracts and proofs.
pub mod Asking
