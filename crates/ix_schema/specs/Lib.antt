-- What public contracts say.
pub mod Said
pub mod Passed
pub mod Splitting
pub mod Forms
pub mod Named
pub mod Structs
-- For private contracts and proofs.
pub mod Open
