-- What public contracts say.
pub mod Ends
-- For private contracts and proofs.
pub mod Parts
pub mod Met
pub mod Keys
