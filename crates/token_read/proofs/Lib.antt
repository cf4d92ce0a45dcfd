pub mod PlaceSteps
pub mod PlaceWalk
pub mod RunSteps
pub mod ValueSteps
pub mod WordSteps
pub mod Shared
