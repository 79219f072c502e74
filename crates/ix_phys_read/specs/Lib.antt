-- What public contracts say.
pub mod Again
pub mod Forests
-- For private contracts and proofs.
pub mod Sound
pub mod Views
pub mod Walked
pub mod Open
