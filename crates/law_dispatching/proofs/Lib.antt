pub mod Orders
pub mod Shared
mod Examples
