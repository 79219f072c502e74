pub mod WireNodes
