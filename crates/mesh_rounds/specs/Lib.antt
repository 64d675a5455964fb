pub mod Puts
pub mod Rounds
