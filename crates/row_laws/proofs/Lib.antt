pub mod RowsGivePieces
