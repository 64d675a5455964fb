pub mod Rises
pub mod Surveys
