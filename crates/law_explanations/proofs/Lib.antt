pub mod Placed
pub mod Terms
pub mod Kept
pub mod Reasoned
pub mod Blocking
pub mod Least
pub mod Responses
pub mod Examples
