-- What public contracts say.
pub mod Trees
pub mod Record
-- For private contracts and proofs.
pub mod Made
pub mod Wide
