-- What public contracts say.
pub mod Numbers
pub mod Words
pub mod Tasks
pub mod Views
-- For private contracts and proofs.
pub mod Reading
pub mod Arguments
