pub mod Holding
pub mod Near
pub mod Boxes
pub mod Found
pub mod Answers
pub mod Laws
pub mod ProbeTexts
pub use Rattle.definitions.specs.Mesh
