pub mod Joined
pub mod KeptSoftware
pub mod DesignRuns
pub mod Shared
mod WorkedMine
mod WorkedMisses
