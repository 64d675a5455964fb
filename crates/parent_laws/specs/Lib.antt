pub mod Everywhere
pub mod Parents
pub mod Laws
