-- What public contracts say.
pub mod Record
-- For private contracts and proofs.
pub mod Asking
pub mod Owners
pub mod Passed
pub mod Pins
pub mod Structs
pub mod Told
