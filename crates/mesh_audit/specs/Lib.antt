pub mod Bounds
pub mod Triangles
pub mod FitTogether
