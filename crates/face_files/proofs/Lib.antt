pub mod Holding
pub mod Numbered
pub mod Boundary
