-- What public contracts say.
pub mod Joinable
-- For private contracts and proofs.
pub mod Joining
