mod RankAnswers
mod FileAnswers
pub mod Readings
