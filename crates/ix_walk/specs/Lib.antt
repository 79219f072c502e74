-- What public contracts say.
pub mod Marks
pub mod Firsts
-- For private contracts and proofs of crates that judge netlists.
pub mod Listed
pub mod Places
