pub mod Printing
pub mod Surveys
pub mod Few
