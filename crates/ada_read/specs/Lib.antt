pub mod FixedTexts
pub mod Heads
pub mod Readers
pub mod Answers
pub mod Judged
