-- What public contracts say.
pub mod Views
pub mod Walked
pub mod Walks
-- For private contracts and proofs.
pub mod Going
