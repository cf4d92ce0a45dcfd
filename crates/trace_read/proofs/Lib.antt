pub mod Numerals
pub mod Placing
pub mod Back
pub mod Fitting
pub mod Fronts
pub mod TableSteps
pub mod Splitting
pub mod Gathering
pub mod Chaining
pub mod Telling
mod Examples
pub mod Shared
