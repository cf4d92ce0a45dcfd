pub mod Demand
pub mod Activations
pub mod Laws
