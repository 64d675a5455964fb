pub mod Everywhere
pub mod Distances
pub mod LatticeVectors
pub mod Parents
pub mod OrientedPieces
pub mod Nodes
