pub mod Shared
pub mod Progressing
pub mod Standing
pub mod Resting
pub mod Digits
pub mod ToldLaws
