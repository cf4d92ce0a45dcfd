pub mod Requests
pub mod Levels
pub mod Printed
pub mod Served
