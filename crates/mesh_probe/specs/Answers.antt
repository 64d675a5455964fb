-- What the answer to a question for a point is.
use Rattle.std.specs.Prelude.{◌≡◌, ◌<◌, ◌+◌, ℕ, pos, [], All, length, map, slice_index_or}
use Rattle.definitions.specs.declared.Place.{Place}
use Rattle.definitions.specs.Lattice.{InDomain}
use Rattle.definitions.specs.Values.{Field}
use Rattle.definitions.specs.States.{Shares, states}
use Rattle.definitions.specs.Mesh.{mesh, node_keys, number_of}
use Rattle.mesh_probe.specs.declared.hold.Hold.{Hold}
use Rattle.mesh_probe.specs.Holding.{Holds, IsFirst, pieces_before, pieces_from, places_of, weights}

-- no tetrahedron of the mesh holds the point
abbrev pub IsOutside : Field → Shares → Place → Type 0
IsOutside f s p = (n : ℕ) → n < length (mesh f s).tets → Holds (places_of f s n) p → ⊥

-- the number of a tetrahedron in the mesh: its rank, behind the pieces of all vertices before its lowest one
abbrev pub number_of_hold : Field → Shares → Hold → ℕ
number_of_hold f s hold = pieces_before f.dims (states f s) hold.lowest + hold.rank

-- The first tetrahedron of the mesh that holds the point: the lowest vertex of its lattice tetrahedron, its rank among the pieces of this vertex, the keys of its nodes, and their weights.
pub record IsHold (f : Field) (s : Shares) (p : Place) (hold : Hold) : Type 0 where
  pub first : IsFirst f s p (number_of_hold f s hold)
  pub domain : InDomain f.dims hold.lowest
  pub ranked : hold.rank < length (pieces_from f.dims (states f s) hold.lowest)
  pub keys : hold.nodes ≡ slice_index_or (pieces_from f.dims (states f s) hold.lowest) hold.rank []
  pub nodes : map (number_of (node_keys f.dims (states f s))) hold.nodes ≡ slice_index_or (mesh f s).tets (number_of_hold f s hold) []
  pub weights_are : map pos hold.weights ≡ weights (places_of f s (number_of_hold f s hold)) p

-- Where all weights are above 0, no other tetrahedron of the mesh holds the point.
abbrev pub IsOnly : Field → Shares → Place → Hold → Type 0
IsOnly f s p hold = All (λ w. 0 < w) hold.weights → (n : ℕ) → n < length (mesh f s).tets → Holds (places_of f s n) p → n ≡ number_of_hold f s hold
