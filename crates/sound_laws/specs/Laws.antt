-- What makes the mesh of every field sound.
use Rattle.std.specs.Prelude.{All, AllPairs, IsFalse, slice_index}
use Rattle.definitions.specs.Values.{Field}
use Rattle.definitions.specs.States.{Shares, IsShares, states}
use Rattle.definitions.specs.Mesh.{mesh, node_keys}
use Rattle.definitions.specs.Soundness.{IsPositive, Meet, same_nodes, HasClosedBoundary, is_level_key, IsSound}

-- Each tetrahedron of the mesh has a volume above zero.
abbrev pub TetsArePositive : Type 0
TetsArePositive = (f : Field) (s : Shares) → IsShares s → All (IsPositive (mesh f s).places) (mesh f s).tets

-- Any two tetrahedra of the mesh share just the hull of their common nodes.
abbrev pub TetsMeet : Type 0
TetsMeet = (f : Field) (s : Shares) → IsShares s → All (λ a. All (Meet (mesh f s).places a) (mesh f s).tets) (mesh f s).tets

-- No two tetrahedra of the mesh have the same nodes.
abbrev pub TetsDiffer : Type 0
TetsDiffer = (f : Field) (s : Shares) → AllPairs (λ a b. IsFalse (same_nodes a b)) (mesh f s).tets

-- The boundary of the mesh closes up and has level nodes alone, and no triangle is in more than two tetrahedra.
abbrev pub BoundaryIsClosed : Type 0
BoundaryIsClosed = (f : Field) (s : Shares) → IsShares s → HasClosedBoundary (mesh f s).tets (λ n. is_level_key (states f s) (slice_index (node_keys f.dims (states f s)) n))

-- The mesh of every field is sound, whatever the shares within their limits.
abbrev pub MeshIsSound : Type 0
MeshIsSound = (f : Field) (s : Shares) → IsShares s → IsSound f s
