pub mod Alike
pub mod Codes
pub mod Divisions
pub mod NearEdges
pub mod Places
pub mod Thresholds
pub mod Values
pub mod ValuesAround
