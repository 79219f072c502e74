-- What public contracts say.
pub mod Completed
-- For private contracts and proofs.
pub mod Told
pub mod Holdings
pub mod Bits
pub mod Ties
pub mod Forced
pub mod Filled
pub mod Whole
