-- What public contracts say.
pub mod Laws
pub mod Placed
-- For private contracts and proofs.
pub mod Tied
