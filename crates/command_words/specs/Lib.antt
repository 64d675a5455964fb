pub mod Commands
pub mod Points
pub mod Settings
