-- What public contracts say.
pub mod Rules
pub mod Broken
-- For private contracts and proofs.
pub mod Kinds
pub mod Walks
pub mod Tables
pub mod Named
pub mod Sizes
pub mod TileWires
pub mod Luts
