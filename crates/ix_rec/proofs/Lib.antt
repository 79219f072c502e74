pub mod ForestLemmas
pub mod MapLemmas
