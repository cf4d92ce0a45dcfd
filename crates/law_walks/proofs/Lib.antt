pub mod Equals
pub mod Steps
pub mod Examples
pub mod Shared
