pub mod AgreedOrder
pub mod Pyramid
pub mod Prism
