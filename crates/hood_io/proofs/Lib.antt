mod CauseExamples
pub mod Fronts
pub mod LastWords
pub mod Shared
mod Places
