pub mod ListedTets
pub mod Steps
pub mod NextVertex
pub mod StateCodes
pub mod TetsInOrder
