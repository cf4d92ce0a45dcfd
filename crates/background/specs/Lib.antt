pub mod Told
pub mod Fronts
pub mod Rows
pub mod Parts
pub mod Hardening
pub mod Makes
pub mod Delivers
