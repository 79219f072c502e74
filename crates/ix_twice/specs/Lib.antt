-- What public contracts say.
pub mod Twice
-- For private contracts and proofs.
pub mod Turns
pub mod Repeats
pub mod Entries
pub mod Facts
