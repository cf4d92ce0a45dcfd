pub mod RenamingLaws
pub mod TerminalLaws
