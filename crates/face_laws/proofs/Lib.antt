pub mod Stars
pub mod OtherSides
pub mod SidesFit
pub mod SameNodes
pub mod FaceKeys
pub mod LevelBoundary
pub mod NumberedBoundary
