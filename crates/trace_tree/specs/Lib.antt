pub mod Lines
pub mod Exclusion
pub mod Placed
