-- What public contracts say.
pub mod Roles
pub mod Joining
pub mod States
-- For private contracts and proofs.
pub mod Kinds
