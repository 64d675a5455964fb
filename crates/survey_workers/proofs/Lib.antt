pub mod Slabs
pub mod Going
pub mod Shares
pub mod Tables
pub mod Gathers
pub mod Ends
