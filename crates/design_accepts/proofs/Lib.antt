pub mod Composing
pub mod Listed
pub mod Gaining
pub mod Ticks
pub mod Scenery
pub mod Judging
pub mod Wronging
