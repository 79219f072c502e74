-- For private contracts and proofs: what `flatten` says is in `ix_hierarchy`.
pub mod Stages
