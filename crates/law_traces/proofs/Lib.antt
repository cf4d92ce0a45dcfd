pub mod Deciding
pub mod RunLaws
pub mod Objects
pub mod Charges
pub mod Scripts
pub mod Examples
pub mod Courses
pub mod Shared
