pub mod Graphs
pub mod Ranks
pub mod Reached
