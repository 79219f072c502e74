-- What public contracts say.
pub mod Shape
pub mod Reading
pub mod Names
pub mod Layout
pub mod Indexes
pub mod Records
pub mod Message
pub mod Device
pub mod Netlist
pub mod Phys
-- For private contracts and proofs.
pub mod Packed
pub mod Worked
pub mod Slots
