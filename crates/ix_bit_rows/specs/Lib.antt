-- What public contracts say.
pub mod Table
-- For private contracts and proofs.
pub mod Tests
