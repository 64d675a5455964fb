-- Which tetrahedra hold a point.
use Rattle.std.specs.Prelude.{◌<◌, ◌==◌, if◌then◌else◌, ℕ, ℤ, pos, ◌≤ℤ◌, List, [], ◌∷◌, length, map, flat_map, slice_index_or, take}
use Rattle.definitions.specs.declared.Dims.{Dims}
use Rattle.definitions.specs.declared.Vertex.{Vertex}
use Rattle.definitions.specs.declared.Place.{Place}
use Rattle.definitions.specs.declared.State.{State}
use Rattle.definitions.specs.Lattice.{id, vertices}
use Rattle.definitions.specs.Values.{Field}
use Rattle.definitions.specs.States.{Shares}
use Rattle.definitions.specs.Tetrahedra.{tets_from}
use Rattle.definitions.specs.Vectors.{det, place_at}
use Rattle.definitions.specs.Mesh.{mesh, tet_pieces}
use Rattle.definitions.specs.Soundness.{corner_places}

-- the weight of a node at a point: the determinant of the tetrahedron with that node's place replaced by the point
abbrev pub weight : List Place → Place → ℕ → ℤ
weight tet p i = det (map (λ j. if j == i then p else place_at tet j) (0 ∷ 1 ∷ 2 ∷ 3 ∷ []))

-- the weights of the four nodes
abbrev pub weights : List Place → Place → List ℤ
weights tet p = map (weight tet p) (0 ∷ 1 ∷ 2 ∷ 3 ∷ [])

-- the tetrahedron holds the point: no weight is below 0
abbrev pub Holds : List Place → Place → Type 0
Holds tet p = (i : ℕ) → i < 4 → pos 0 ≤ℤ weight tet p i

-- the places of the nodes of a tetrahedron of the mesh, by its number
abbrev pub places_of : Field → Shares → ℕ → List Place
places_of f s n = corner_places (mesh f s).places (slice_index_or (mesh f s).tets n [])

-- the tetrahedron with this number holds the point, and none before it does
pub record IsFirst (f : Field) (s : Shares) (p : Place) (n : ℕ) : Type 0 where
  pub within : n < length (mesh f s).tets
  pub holds : Holds (places_of f s n) p
  pub first : (m : ℕ) → m < n → Holds (places_of f s m) p → ⊥

-- the pieces of the lattice tetrahedra whose lowest vertex is v
abbrev pub pieces_from : Dims → List State → Vertex → List (List ℕ)
pieces_from d ss v = flat_map (tet_pieces d ss) (tets_from d v)

-- how many pieces stand before those whose lowest vertex is v
abbrev pub pieces_before : Dims → List State → Vertex → ℕ
pieces_before d ss v = length (flat_map (pieces_from d ss) (take (id d v) (vertices d)))
