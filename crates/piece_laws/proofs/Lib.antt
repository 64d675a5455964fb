pub mod Renaming
pub mod CommonPiece
pub mod PiecesMeet
pub mod SignedVolumes
