pub mod Alike
pub mod Codes
pub mod Deep
pub mod Near
pub use Rattle.definitions.specs.States
pub use Rattle.snap_laws.specs.Around
pub use Rattle.snap_laws.specs.Laws
