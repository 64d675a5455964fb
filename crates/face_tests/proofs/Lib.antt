pub mod KnownTetrahedra
