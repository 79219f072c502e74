-- What public contracts say.
pub mod FirstUnknown
-- For private contracts and proofs.
pub mod Marked
