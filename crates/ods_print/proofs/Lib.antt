pub mod Parting
pub mod Lines
pub mod Examples
pub mod Shared
