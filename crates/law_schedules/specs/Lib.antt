pub mod Schedules
pub mod Rests
