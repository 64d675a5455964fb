pub mod LineSteps
pub mod LinesRead
pub mod Digits
pub mod GridUnits
mod Worked
