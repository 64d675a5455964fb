pub mod Workers
pub mod Layers
