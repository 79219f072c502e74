-- For private contracts and proofs.
pub mod Stages
