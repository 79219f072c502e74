-- What public contracts say.
pub mod Uses
-- For private contracts and proofs.
pub mod Fitting
