pub mod Used
pub mod Reasons
pub mod Laws
