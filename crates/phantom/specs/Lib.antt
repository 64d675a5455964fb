pub mod Noise
pub mod Phantom
pub mod Rows
