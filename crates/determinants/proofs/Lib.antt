pub mod Entries
pub mod SignedProducts
