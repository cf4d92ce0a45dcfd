pub mod HeadTexts
pub mod LineTurns
pub mod Layouts
pub mod Shared
mod Examples
