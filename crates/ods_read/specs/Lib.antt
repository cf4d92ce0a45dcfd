pub mod Readers
pub mod Heads
pub mod ObjectReaders
pub mod DesignReaders
pub mod Nesting
pub mod Answers
