pub mod Shared
pub mod EndSteps
mod Examples
pub mod ListSteps
pub mod PlaceSteps
pub mod TableSteps
