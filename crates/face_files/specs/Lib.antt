pub mod FileLines
pub mod Held
