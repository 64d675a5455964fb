pub mod Opened
pub mod FilesRead
pub mod Tried
pub mod MeshesDone
