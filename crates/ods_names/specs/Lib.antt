pub mod Keys
pub mod Mentions
pub mod NameLists
pub mod Needs
pub mod Taken
