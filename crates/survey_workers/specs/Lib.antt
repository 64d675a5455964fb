pub mod Going
pub mod Tables
