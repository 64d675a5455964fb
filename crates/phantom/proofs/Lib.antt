pub mod Sequences
pub mod Rows
pub mod Sizes
