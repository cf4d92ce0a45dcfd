pub mod Shared
mod Examples
