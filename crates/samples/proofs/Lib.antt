pub mod SetBits
pub mod Fields
pub mod Told
pub mod ValuesAt
pub mod Sums
pub mod SignCounts
pub mod Stars
