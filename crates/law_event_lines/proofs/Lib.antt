pub mod Values
pub mod Pieces
pub mod Steps
pub mod Texts
pub mod Programs
pub mod Bytes
pub mod Shared
