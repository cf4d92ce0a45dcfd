pub mod FirstPlaces
pub mod OpPlaces
pub mod Places
pub mod Sets
pub mod Tables
