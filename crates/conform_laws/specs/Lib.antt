pub mod Tetrahedra
