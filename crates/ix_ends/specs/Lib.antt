-- What public contracts say.
pub mod Ends
pub mod Laws
-- For private contracts and proofs.
pub mod Numbering
pub mod Pairs
pub mod Rows
