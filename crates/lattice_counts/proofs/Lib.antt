pub mod Ranges
pub mod Sizes
pub mod Ranks
pub mod Places
