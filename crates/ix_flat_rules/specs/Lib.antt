-- What public contracts say.
pub mod Givens
-- For private contracts and proofs.
pub mod Told
pub mod Leaves
pub mod Lacking
pub mod Opens
