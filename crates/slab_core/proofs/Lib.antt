pub mod Layers
pub mod Workers
pub mod Keeps
pub mod Starts
pub mod Needs
pub mod Consequences
