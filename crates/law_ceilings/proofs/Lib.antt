pub mod Dispatching
pub mod Owing
pub mod OrderNumbers
pub mod Numbers
pub mod Holding
pub mod Rankings
pub mod Layers
pub mod Texts
pub mod Taking
pub mod Worked
mod Examples
pub mod Shared
