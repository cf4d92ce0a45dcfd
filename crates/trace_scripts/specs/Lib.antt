pub mod Scripts
pub mod Insides
pub mod Scenes
pub mod Objects
pub mod Serving
pub mod Threads
pub mod Moving
pub mod Wrongs
