pub mod Parts
pub mod Made
pub mod Layers
pub mod Kinds
pub use Rattle.definitions.specs.Mesh
pub use Rattle.place_laws.specs.Inside
