pub mod Ranks
pub mod ByValues
pub mod CutsLeft
pub mod Nearest
pub mod StatesAre
