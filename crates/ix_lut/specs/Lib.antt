-- What public contracts say.
pub mod Tables
pub mod Places
pub mod Shapes
pub mod Orders
pub mod Items
pub mod Ties
pub mod Plans
pub mod Init
-- For private contracts and proofs.
pub mod Readings
pub mod Forcing
pub mod Fillings
pub mod Masks
pub mod Laid
