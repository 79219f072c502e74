pub mod DiskShelf
pub mod Faults
pub mod MemFiles
pub mod MemShelf
pub mod MemSink
pub mod OutSink
pub mod Shelf
pub mod Sink
