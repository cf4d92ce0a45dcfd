pub mod Shared
mod Ticks
mod Sums
mod Cells
mod Levels
mod Counts
mod Windows
mod Example
