pub mod Telling
pub mod Finds
pub mod Orders
pub mod Listings
pub mod LeafInputs
pub mod AllInputs
pub mod LutPorts
pub mod LeafTables
