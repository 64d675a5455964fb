pub mod Steps
pub mod KindFound
pub mod Words
pub mod MatrixRows
