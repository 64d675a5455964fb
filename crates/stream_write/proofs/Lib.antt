pub mod Pending
pub mod Printing
pub mod Rounds
