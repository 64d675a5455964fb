-- Parts of the mesh: the nodes of a vertex, and pieces by the numbers of their nodes.
use Rattle.std.specs.Prelude.{◌≡◌, ℕ, ◌*◌, true, List, [], ◌∷◌, Some, filter, flat_map, length, map}
use Rattle.std.specs.List.{range_with_len}
use Rattle.definitions.specs.declared.Dims.{Dims}
use Rattle.definitions.specs.declared.Vertex.{Vertex}
use Rattle.definitions.specs.declared.Place.{Place}
use Rattle.definitions.specs.declared.Sign.TheVariants.{Plus}
use Rattle.definitions.specs.declared.State.{State}
use Rattle.definitions.specs.Lattice.{id, neighbour, vertices}
use Rattle.definitions.specs.Values.{Field}
use Rattle.definitions.specs.Tetrahedra.{tets_from}
use Rattle.definitions.specs.Places.{cut_place}
use Rattle.definitions.specs.Mesh.{Mesh, all_pieces, edge_cut, node_keys, node_place, number_of, occurs, state_at, tet_pieces}
use Rattle.definitions.specs.States.{sign_of_state}
use Rattle.vertex_numbers.specs.declared.Later.{Later}
use Rattle.vertex_numbers.specs.Later.{AreBelow, AreLater, HaveSign}
use Rattle.vertex_numbers.specs.Numbering.{Numbering, number_in}

-- the keys of a vertex: of itself and of the cuts on its edges upwards
abbrev pub keys_of_vertex : ℕ → List ℕ
keys_of_vertex n = range_with_len (8 * n) 8

-- those that occur
abbrev pub keys_at : Dims → List State → ℕ → List ℕ
keys_at d ss n = filter (occurs (all_pieces d ss)) (keys_of_vertex n)

-- those of the vertices of n ids from a on
unfoldable pub keys_of_ids : Dims → List State → ℕ → ℕ → List ℕ
keys_of_ids d ss a n = filter (occurs (all_pieces d ss)) (range_with_len (8 * a) (8 * n))

-- pieces by the numbers of their nodes
abbrev pub numbered : Dims → List State → List (List ℕ) → List (List ℕ)
numbered d ss ps = map (map (number_of (node_keys d ss))) ps

-- those of a lattice tetrahedron, and those of all whose lowest vertex is v
abbrev pub numbered_in : Dims → List State → List Vertex → List (List ℕ)
numbered_in d ss tet = numbered d ss (tet_pieces d ss tet)

abbrev pub numbered_from : Dims → List State → Vertex → List (List ℕ)
numbered_from d ss v = numbered d ss (flat_map (tet_pieces d ss) (tets_from d v))

-- the place of the cut on the edge from a vertex in a direction
abbrev pub place_on_edge : Field → Vertex → ℕ → Place
place_on_edge f v dir = cut_place v dir (edge_cut f v dir)

-- the mesh of a field with these states of all vertices
unfoldable pub mesh_of : Field → List State → Mesh
mesh_of f ss = record { places = map (node_place f ss) (node_keys f.dims ss); tets = numbered f.dims ss (all_pieces f.dims ss) }

-- the pieces of the six lattice tetrahedra at a vertex, by the numbers of this vertex and of its neighbours upwards, where all are Plus
abbrev pub whole_tets : ℕ → Later → List (List ℕ)
whole_tets own n =
    (own ∷ n.first ∷ n.sixth ∷ n.fourth ∷ [])
    ∷ (own ∷ n.second ∷ n.fifth ∷ n.sixth ∷ [])
    ∷ (own ∷ n.third ∷ n.fourth ∷ n.seventh ∷ [])
    ∷ (own ∷ n.third ∷ n.seventh ∷ n.fifth ∷ [])
    ∷ (own ∷ n.fourth ∷ n.sixth ∷ n.seventh ∷ [])
    ∷ (own ∷ n.fifth ∷ n.seventh ∷ n.sixth ∷ [])
    ∷ []

-- the numbers are those of the vertices with these ids
pub record AreNumbers (n : Numbering) (ids numbers : Later) : Type 0 where
  pub first : numbers.first ≡ number_in n (8 * ids.first)
  pub second : numbers.second ≡ number_in n (8 * ids.second)
  pub third : numbers.third ≡ number_in n (8 * ids.third)
  pub fourth : numbers.fourth ≡ number_in n (8 * ids.fourth)
  pub fifth : numbers.fifth ≡ number_in n (8 * ids.fifth)
  pub sixth : numbers.sixth ≡ number_in n (8 * ids.sixth)
  pub seventh : numbers.seventh ≡ number_in n (8 * ids.seventh)

-- the ids are those of the neighbours upwards of a vertex, and it and they are all Plus
pub record IsWhole (d : Dims) (ss : List State) (v : Vertex) (ids : Later) : Type 0 where
  pub later : AreLater d v ids
  pub below : AreBelow (length (vertices d)) ids
  pub signs : HaveSign ss (id d v) ids Plus

-- the vertex is Plus, and has this number as a node
pub record IsPlusNode (d : Dims) (ss : List State) (v : Vertex) (number : ℕ) : Type 0 where
  pub plus : sign_of_state (state_at ss (id d v)) ≡ Plus
  pub is : number ≡ number_of (node_keys d ss) (8 * id d v)

-- the same of a vertex's neighbour upwards in a direction
pub record IsPlusTowards (d : Dims) (ss : List State) (v : Vertex) (dir number : ℕ) : Type 0 where
  pub there : Vertex
  pub leads : neighbour d v dir true ≡ Some there
  pub node : IsPlusNode d ss there number

-- the numbers are those of a vertex and of its neighbours upwards in all directions, and it and they are all Plus
pub record ArePlusNodes (d : Dims) (ss : List State) (v : Vertex) (own : ℕ) (later : Later) : Type 0 where
  pub node : IsPlusNode d ss v own
  pub first : IsPlusTowards d ss v 1 later.first
  pub second : IsPlusTowards d ss v 2 later.second
  pub third : IsPlusTowards d ss v 3 later.third
  pub fourth : IsPlusTowards d ss v 4 later.fourth
  pub fifth : IsPlusTowards d ss v 5 later.fifth
  pub sixth : IsPlusTowards d ss v 6 later.sixth
  pub seventh : IsPlusTowards d ss v 7 later.seventh
