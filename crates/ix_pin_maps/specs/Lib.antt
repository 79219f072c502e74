-- What public contracts say.
pub mod Laws
-- For private contracts and proofs.
pub mod Inputs
pub mod Marks
pub mod Entries
