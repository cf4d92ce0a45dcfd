pub mod Arguments
pub mod Causes
pub mod Shelves
pub mod Sinks
pub mod MemShelf
pub mod MemSink
