pub mod Opening
pub mod Status
pub mod Laws
