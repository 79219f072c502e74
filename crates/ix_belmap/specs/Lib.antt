-- What public contracts say.
pub mod Counts
pub mod Groups
pub mod Pins
-- For private contracts and proofs.
pub mod Failing
pub mod Marks
pub mod Sites
