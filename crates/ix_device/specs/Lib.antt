-- What public contracts say.
pub mod Lookups
pub mod Elements
pub mod Shapes
pub mod Admission
pub mod Sources
pub mod SitePips
pub mod PinsListed
pub mod Faults
-- For private contracts and proofs.
pub mod Numbered
pub mod Tables
pub mod Listed
pub mod Premises
pub mod TileWires
pub mod Counts
pub mod NamedSources
pub mod Pins
pub mod Places
pub mod TypeTables
pub mod AllTables
pub mod Valid
