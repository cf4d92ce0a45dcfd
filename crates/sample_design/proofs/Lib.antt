pub mod Digits
pub mod TreeSteps
pub mod RequestSteps
pub mod Examples
pub mod Shared
