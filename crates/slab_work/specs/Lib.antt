pub mod Surveyed
pub mod Rounds
pub mod Few
