pub mod Table
pub mod Translated
pub mod KindModels
pub mod FramesOfKinds
pub mod PiecesOfCases
pub mod PlacesOfCorners
pub mod NumberedByTest
