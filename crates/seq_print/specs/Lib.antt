pub mod Readable
pub mod Printing
