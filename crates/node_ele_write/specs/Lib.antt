pub mod Printable
pub mod Stars
pub mod Texts
