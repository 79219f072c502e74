-- What public contracts say.
pub mod Differences
-- For private contracts and proofs.
pub mod Numbers
pub mod Earliest
pub mod Found
