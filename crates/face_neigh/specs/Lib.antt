pub mod Sides
pub mod Pairs
pub mod Open
pub mod NeighbourLaws
