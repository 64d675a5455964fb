pub mod Boundary
pub mod Overlap
pub mod Laws
