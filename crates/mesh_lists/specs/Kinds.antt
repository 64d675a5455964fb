-- The vertices of lattice tetrahedra by their signs and nodes, and the pieces of a lattice tetrahedron by these.
use Rattle.std.specs.Prelude.{◌≡◌, ℕ, List, ◌++◌, map, slice_index, slice_index_or}
use Rattle.definitions.specs.declared.Sign.TheVariants.{Minus}
use Rattle.definitions.specs.declared.State.{State}
use Rattle.definitions.specs.declared.Vertex.{Vertex}
use Rattle.definitions.specs.Lattice.{direction}
use Rattle.definitions.specs.Mesh.{state_at}
use Rattle.definitions.specs.Pieces.{pieces, slot}
use Rattle.definitions.specs.States.{sign_of_state}
use Rattle.lattice_laws.specs.NumberedTetrahedra.{IsNumberedTet}
use Rattle.mesh_lists.specs.declared.kinds.TetVertex.{TetVertex}
use Rattle.stencils.specs.declared.Frame.{Frame}
use Rattle.stencils.specs.Frames.{FitsFrame, kind_number, ten_keys}
use Rattle.vertex_numbers.specs.declared.Later.{Later}
use Rattle.vertex_numbers.specs.declared.VertexNodes.{VertexNodes}
use Rattle.vertex_numbers.specs.Numbering.{Numbering, number_in}
use Rattle.vertex_numbers.specs.VertexNodes.{AreNodesAt}

-- the sign of the vertex of this id, and the nodes at it
pub record IsTetVertex (ss : List State) (n : Numbering) (id : ℕ) (t : TetVertex) : Type 0 where
  pub sign : t.sign ≡ sign_of_state (state_at ss id)
  pub nodes : AreNodesAt n id t.nodes

-- the one at a place
abbrev pub tet_vertex_at : List TetVertex → ℕ → TetVertex
tet_vertex_at ts k = slice_index_or ts k (record { sign = Minus; nodes = record { before = 0; bits = 0 } })

-- those of the vertex of id m, at place 0, and of its neighbours upwards, each at the place of its direction
pub record AreTetVertices (ss : List State) (n : Numbering) (m : ℕ) (later : Later) (ts : List TetVertex) : Type 0 where
  pub own : IsTetVertex ss n m (tet_vertex_at ts 0)
  pub first : IsTetVertex ss n later.first (tet_vertex_at ts 1)
  pub second : IsTetVertex ss n later.second (tet_vertex_at ts 2)
  pub third : IsTetVertex ss n later.third (tet_vertex_at ts 3)
  pub fourth : IsTetVertex ss n later.fourth (tet_vertex_at ts 4)
  pub fifth : IsTetVertex ss n later.fifth (tet_vertex_at ts 5)
  pub sixth : IsTetVertex ss n later.sixth (tet_vertex_at ts 6)
  pub seventh : IsTetVertex ss n later.seventh (tet_vertex_at ts 7)

-- the numbers of the ten nodes of each tetrahedron that has these nodes at its vertices
abbrev pub GivesTen : VertexNodes → VertexNodes → VertexNodes → VertexNodes → List ℕ → List ℕ → Type 0
GivesTen a b c d directions ten =
    (n : Numbering) (ids : List ℕ) → AreNodesAt n (slice_index ids 0) a → AreNodesAt n (slice_index ids 1) b → AreNodesAt n (slice_index ids 2) c → AreNodesAt n (slice_index ids 3) d → ten ≡ map (number_in n) (ten_keys ids directions)

-- the pieces of a tetrahedron, by the numbers of their nodes in a numbering
abbrev pub pieces_in : List State → Numbering → List Vertex → List ℕ → List (List ℕ)
pieces_in ss n tet ids = map (map (number_in n)) (pieces tet ids (map (λ i. sign_of_state (state_at ss i)) ids))

-- the new list has those of each tetrahedron with this frame and these vertices behind the old ones
abbrev pub AddsPieces : Frame → TetVertex → TetVertex → TetVertex → TetVertex → List (List ℕ) → List (List ℕ) → Type 0
AddsPieces frame a b c d old new =
    (ss : List State) (n : Numbering) (tet : List Vertex) (ids : List ℕ) → IsNumberedTet tet ids → FitsFrame tet frame
    → IsTetVertex ss n (slice_index ids 0) a → IsTetVertex ss n (slice_index ids 1) b → IsTetVertex ss n (slice_index ids 2) c → IsTetVertex ss n (slice_index ids 3) d → new ≡ old ++ pieces_in ss n tet ids

-- a tetrahedron of a kind, with its lowest vertex at place 0 and the others at the places of their directions from it
pub record IsOfKind (ss : List State) (n : Numbering) (ts : List TetVertex) (kind : ℕ) (tet : List Vertex) (ids : List ℕ) : Type 0 where
  pub numbered : IsNumberedTet tet ids
  pub kind_is : kind_number (slot tet 0) (slot tet 1) (slot tet 2) ≡ kind
  pub lowest : IsTetVertex ss n (slice_index ids 0) (tet_vertex_at ts 0)
  pub first : IsTetVertex ss n (slice_index ids 1) (tet_vertex_at ts (direction (slot tet 0) (slot tet 1)))
  pub second : IsTetVertex ss n (slice_index ids 2) (tet_vertex_at ts (direction (slot tet 0) (slot tet 2)))
  pub third : IsTetVertex ss n (slice_index ids 3) (tet_vertex_at ts (direction (slot tet 0) (slot tet 3)))

-- the new list has the pieces of each such tetrahedron behind the old ones
abbrev pub AddsKind : ℕ → List TetVertex → List (List ℕ) → List (List ℕ) → Type 0
AddsKind kind ts old new = (ss : List State) (n : Numbering) (tet : List Vertex) (ids : List ℕ) → IsOfKind ss n ts kind tet ids → new ≡ old ++ pieces_in ss n tet ids
