-- What public contracts say.
pub mod Reaching
-- For private contracts and proofs.
pub mod Cells
pub mod State
pub mod Searching
