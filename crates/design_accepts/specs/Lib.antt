pub mod Answers
pub mod Calling
pub mod Units
pub mod Refusals
