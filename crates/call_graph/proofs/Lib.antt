mod EdgeSteps
mod EdgeExamples
mod ListedSteps
mod WaySteps
mod SettledPrices
mod SettledExamples
pub mod Shared
