pub mod Rows
pub mod Values
pub mod Positive
pub mod Weights
pub mod Meeting
pub mod Blocks
pub mod Different
pub mod Sound
