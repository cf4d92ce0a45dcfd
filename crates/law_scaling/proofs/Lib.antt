pub mod Ticks
pub mod Services
pub mod Sections
pub mod Tables
pub mod Solutions
pub mod Shared
mod Examples
