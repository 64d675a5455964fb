-- The nodes of a tetrahedron stand near each other.
use Rattle.std.specs.Prelude.{ℕ, ◌<◌, List, length, All}
use Rattle.definitions.specs.declared.Place.{Place}
use Rattle.definitions.specs.Values.{Field}
use Rattle.definitions.specs.States.{Shares, IsShares}
use Rattle.definitions.specs.Mesh.{mesh}
use Rattle.definitions.specs.Soundness.{corner_places}
use Rattle.determinants.specs.Bounds.{AreNear}

-- the nodes of a tetrahedron have places
abbrev pub IsNumbered : List Place → List ℕ → Type 0
IsNumbered places tet = All (λ n. n < length places) tet

-- and these differ by at most 12,286 on each axis
pub record IsPlaced (places : List Place) (tet : List ℕ) : Type 0 where
  pub numbers : IsNumbered places tet
  pub near : AreNear (corner_places places tet)

-- So do those of every tetrahedron of every mesh.
abbrev pub NodesAreNear : Type 0
NodesAreNear = (f : Field) (s : Shares) → IsShares s → All (IsPlaced (mesh f s).places) (mesh f s).tets
