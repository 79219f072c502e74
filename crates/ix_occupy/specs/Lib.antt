-- What public contracts say.
pub mod Steps
pub mod Loads
pub mod Costs
pub mod Kept
-- For private contracts and proofs.
pub mod Held
