pub mod Result
pub mod Segments
pub mod Target
pub mod Objects
pub mod Sound
pub mod Views
