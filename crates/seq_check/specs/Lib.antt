pub mod Scopes
pub mod Views
pub mod Places
pub mod LevelViews
pub mod Answers
pub mod Seen
