pub mod Terminals
pub mod Renaming
