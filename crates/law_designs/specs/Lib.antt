pub mod Laws
pub mod Rankings
pub mod TabledDesigns
