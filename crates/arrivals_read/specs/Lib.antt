pub mod Answers
pub mod Readers
pub mod Texts
pub mod Tables
pub mod Checked
pub mod Found
