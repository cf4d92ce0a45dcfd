mod More
mod Cases
mod Nested
mod Units
pub mod TickRules
pub mod Shared
