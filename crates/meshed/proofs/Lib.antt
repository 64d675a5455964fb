pub mod Audited
pub mod FilesHeld
pub mod Holding
pub mod Making
pub mod Statuses
