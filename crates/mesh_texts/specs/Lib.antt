pub mod Coordinates
pub mod Frames
pub mod Nodes
pub mod Lines
pub mod Files
pub mod Report
