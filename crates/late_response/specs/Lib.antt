pub mod Late
pub mod Laws
pub mod Progress
pub mod Utilisation
pub mod Limbs
