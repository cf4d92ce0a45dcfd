mod ParserSteps
pub mod ParserLaws
pub mod ParserCommands
pub mod WordsRead
pub mod WordCounts
mod Examples
