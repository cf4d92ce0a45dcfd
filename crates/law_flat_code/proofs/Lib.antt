pub mod Tests
pub mod Choices
pub mod Shared
