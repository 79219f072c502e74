-- What public contracts say.
pub mod Adding
pub mod Finish
pub mod Finishing
pub mod Long
pub mod Loose
pub mod Named
pub mod Numbers
pub mod Premises
pub mod Reading
pub mod Records
pub mod Sizes
-- For private contracts and proofs.
pub mod Faults
pub mod Views
