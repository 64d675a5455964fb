pub mod HeldUnder
pub mod Parts
pub mod Meanings
pub mod SteadyMeanings
