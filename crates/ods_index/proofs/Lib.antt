mod CallingExamples
mod Examples
pub mod LinkLaws
pub mod RequiredSteps
pub mod Shared
