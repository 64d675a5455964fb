pub mod RowPieces
