-- What public contracts say.
pub mod Inout
-- For private contracts and proofs.
pub mod Leaf
