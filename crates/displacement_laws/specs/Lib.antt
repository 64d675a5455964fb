pub mod Displacements
pub mod DisplacedRows
pub mod Laws
