pub mod TextLines
pub mod Decimals
pub mod Told
