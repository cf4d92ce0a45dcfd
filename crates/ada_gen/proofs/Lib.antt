pub mod UnitSteps
pub mod Shared
mod Examples
