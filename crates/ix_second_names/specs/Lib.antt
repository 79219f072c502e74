-- What public contracts say.
pub mod Seconds
-- For private contracts and proofs.
pub mod Seen
