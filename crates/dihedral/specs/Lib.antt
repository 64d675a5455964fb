pub mod Fractions
pub mod Pairs
pub mod Quick
pub mod Shapes
pub mod Stars
pub mod TetAngles
pub mod TetFaces
