pub mod Taking
pub mod Makes
pub mod Delivers
