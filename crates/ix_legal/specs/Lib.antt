-- What public contracts say. First what a physical netlist is made of.
pub mod Sites
pub mod Segments
pub mod Holders
pub mod TableKeys
pub mod Spots
-- Then the rules, what is told of a netlist that breaks one, and what follows from them.
pub mod Names
pub mod Placements
pub mod Trees
pub mod Sharing
pub mod LutTables
pub mod Legal
pub mod Laws
-- Netlists on which the rules are tried.
pub mod Small
-- For private contracts and proofs: how crates that judge netlists make up what they tell.
pub mod Breaks
