pub mod Tests
pub mod Ranges
pub mod Lists
pub mod Sums
pub mod Digits
