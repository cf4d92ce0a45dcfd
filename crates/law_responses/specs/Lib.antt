pub mod Resting
pub mod Using
