pub mod Shapes
pub mod Sides
pub mod Laws
