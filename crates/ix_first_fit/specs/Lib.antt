-- What public contracts say.
pub mod Spots
pub mod Fit
pub mod Netlist
pub mod Named
pub mod Laws
pub mod Answers
-- For private contracts and proofs.
pub mod ByTypes
pub mod Taken
