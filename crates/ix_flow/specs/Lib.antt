-- What `run` says to its callers.
pub mod Words
pub mod Answer
pub mod CheckAnswer
pub mod Status
pub mod Run
pub mod Implements
-- For private contracts and proofs.
pub mod WordsView
pub mod Named
