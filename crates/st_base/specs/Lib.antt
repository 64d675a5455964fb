pub mod Causes
pub mod Desk
pub mod Frames
pub mod Samples
pub use Rattle.definitions.specs.Lattice
pub use Rattle.definitions.specs.Values
pub use Rattle.formats.specs.Volumes
