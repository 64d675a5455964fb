pub mod Renaming
pub mod SignedVolumes
pub mod Laws
