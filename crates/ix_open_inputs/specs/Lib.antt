-- What public contracts say.
pub mod Standings
pub mod Joinings
-- For private contracts and proofs.
pub mod Spelling
pub mod Places
