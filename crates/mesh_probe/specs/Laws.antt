-- What is proved of points and the tetrahedra that hold them.
use Rattle.std.specs.Prelude.{◌≡◌, ◌<◌, ℕ, pos, ◌<ℤ◌, List, length}
use Rattle.definitions.specs.declared.Vertex.{Vertex}
use Rattle.definitions.specs.declared.Place.{Place}
use Rattle.definitions.specs.Lattice.{InDomain}
use Rattle.definitions.specs.Values.{Field}
use Rattle.definitions.specs.States.{Shares, IsShares, states}
use Rattle.definitions.specs.Mesh.{mesh}
use Rattle.lattice_laws.specs.Ascending.{Has}
use Rattle.mesh_probe.specs.Found.{piece_places}
use Rattle.mesh_probe.specs.Holding.{Holds, pieces_from, places_of, weight}
use Rattle.mesh_probe.specs.Near.{IsNear}

-- A point that a piece holds is near the lowest vertex of the piece's lattice tetrahedron.
abbrev pub HeldPointsAreNear : Type 0
HeldPointsAreNear =
    (f : Field) (s : Shares) → IsShares s → (v : Vertex) → InDomain f.dims v → (keys : List ℕ) (p : Place) → Has keys (pieces_from f.dims (states f s) v) → Holds (piece_places f s keys) p
    → IsNear v p

-- Where all four weights of a point in a tetrahedron of the mesh are above 0, no other one holds the point.
abbrev pub InnerPointsAreHeldOnce : Type 0
InnerPointsAreHeldOnce =
    (f : Field) (s : Shares) → IsShares s → (p : Place) (m n : ℕ) → m < length (mesh f s).tets → n < length (mesh f s).tets
    → ((i : ℕ) → i < 4 → pos 0 <ℤ weight (places_of f s m) p i) → Holds (places_of f s n) p → m ≡ n
