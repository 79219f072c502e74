-- What public contracts say.
pub mod Sharing
-- For private contracts and proofs.
pub mod Kept
pub mod Noted
pub mod Least
