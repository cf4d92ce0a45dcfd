pub mod Lists
pub mod Texts
pub mod Objects
pub mod Callings
pub mod Numbers
pub mod BodyCosts
pub mod Sizes
pub mod Shared
mod Examples
