-- What public contracts say.
pub mod Constants
pub mod Ends
pub mod Graph
pub mod Named
pub mod Nodes
pub mod Pips
pub mod Spans
pub mod Tables
-- For private contracts and proofs.
pub mod Boxes
pub mod Edges
pub mod IsGraph
pub mod Marks
pub mod NodeTables
