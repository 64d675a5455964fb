pub mod Moved
pub mod Matrix
pub mod Kinds
