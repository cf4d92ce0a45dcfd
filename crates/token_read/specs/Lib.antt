pub mod Outcomes
pub mod Places
pub mod Lexemes
pub mod Fronts
pub mod Words
pub mod Behind
pub mod Ahead
pub mod Readers
