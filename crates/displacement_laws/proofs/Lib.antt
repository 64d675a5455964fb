pub mod Displacements
pub mod Distances
pub mod DisplacedRows
