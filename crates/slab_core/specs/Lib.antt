pub mod States
pub mod Steps
pub mod Sound
pub mod Results
pub mod Views
