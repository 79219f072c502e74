-- What public contracts say.
pub mod Frame
pub mod Growth
-- For private contracts and proofs.
pub mod Whole
