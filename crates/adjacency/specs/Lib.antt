pub mod Neighbours
pub mod Laws
pub mod Texts
