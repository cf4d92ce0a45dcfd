pub mod Places
pub mod FirstRows
pub mod Moves
pub mod FillSteps
pub mod LastSteps
pub mod SearchSteps
pub mod Shared
