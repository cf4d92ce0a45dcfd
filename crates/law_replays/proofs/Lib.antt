pub mod Answered
pub mod Shared
