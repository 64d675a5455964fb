pub mod Corners
pub mod Rows
pub mod SignCounts
pub mod SignWords
pub mod Stars
