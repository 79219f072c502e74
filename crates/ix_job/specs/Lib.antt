-- What a job's run says to its callers.
pub mod Outside
pub mod Job
pub mod Chain
pub mod Views
-- For private contracts and proofs, also of commands.
pub mod Steps
pub mod Chains
