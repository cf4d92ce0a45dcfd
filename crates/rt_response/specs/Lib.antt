pub mod Tables
pub mod Response
pub mod Rounds
pub mod Entries
