pub mod ReaderLaws
pub mod Turns
pub mod Checking
pub mod TableSteps
pub mod Reaching
pub mod ItemSteps
pub mod Telling
pub mod Shared
mod Examples
