pub mod Commas
pub mod Decimals
pub mod Limits
pub mod Meanings
pub mod NamedWords
pub mod Places
pub mod Settled
pub mod TextEnds
