pub mod Cases
pub mod Frames
