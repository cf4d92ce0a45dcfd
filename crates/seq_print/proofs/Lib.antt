pub mod Examples
pub mod Indents
pub mod StatementTexts
pub mod ArmForms
pub mod Shared
