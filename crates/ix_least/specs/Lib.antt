-- What public contracts say.
pub mod Walks
-- For private contracts and proofs.
pub mod Labels
pub mod Queue
pub mod Settling
