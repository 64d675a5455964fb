-- Meshes of fields.
use Rattle.std.specs.Prelude.{◌≡◌}
use Rattle.definitions.specs.Values.{Field, IsField}
use Rattle.definitions.specs.States.{Shares, IsShares}
use Rattle.definitions.specs.Mesh.{Mesh, mesh}

-- it is the mesh of some field with some shares
pub record IsMade (m : Mesh) : Type 0 where
  pub field : Field
  pub shares : Shares
  pub is_field : IsField field
  pub are_shares : IsShares shares
  pub is : m ≡ mesh field shares
