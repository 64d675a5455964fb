pub mod Turns
pub mod Totals
pub mod AllRounds
