pub mod Callees
pub mod Counting
pub mod Different
pub mod Gathered
pub mod Over
