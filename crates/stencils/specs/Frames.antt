-- What a lattice tetrahedron's kind says of it: the directions of its edges, and its orientation. The keys of its nodes by these directions.
use Rattle.std.specs.Prelude.{◌≡◌, ℕ, ◌+◌, ◌*◌, Bool, ◌==◌, nat_lt, true, List, [], ◌∷◌, slice_index, if◌then◌else◌}
use Rattle.std.specs.List.{list_all}
use Rattle.definitions.specs.declared.Vertex.{Vertex}
use Rattle.definitions.specs.Lattice.{direction}
use Rattle.definitions.specs.Pieces.{slot}
use Rattle.lattice_laws.specs.NumberedTetrahedra.{IsNumberedTet}
use Rattle.stencils.specs.declared.frames.Frame.{Frame}
use Rattle.stencils.specs.Cases.{is_turned}

-- the directions of the six edges
abbrev pub edge_directions : List Vertex → List ℕ
edge_directions tet =
    direction (slot tet 0) (slot tet 1)
    ∷ direction (slot tet 0) (slot tet 2)
    ∷ direction (slot tet 0) (slot tet 3)
    ∷ direction (slot tet 1) (slot tet 2)
    ∷ direction (slot tet 1) (slot tet 3)
    ∷ direction (slot tet 2) (slot tet 3)
    ∷ []

abbrev pub are_directions : List ℕ → Bool
are_directions directions = list_all (λ n. nat_lt n 8) directions

-- the frame is that of the tetrahedron
pub record FitsFrame (tet : List Vertex) (frame : Frame) : Type 0 where
  pub directions : frame.directions ≡ edge_directions tet
  pub turned : frame.is_turned ≡ is_turned tet
  pub small : are_directions frame.directions ≡ true

-- the place of its kind among the six, by its lowest three vertices
abbrev pub kind_number : Vertex → Vertex → Vertex → ℕ
kind_number a b c =
    if b.h == a.h then (if b.y == a.y then 0 else 1)
    else (if nat_lt a.y b.y then 5 else (if nat_lt a.x b.x then 4 else (if nat_lt a.y c.y then 3 else 2)))

-- the keys of all ten nodes, in the order of `corners`
abbrev pub ten_keys : List ℕ → List ℕ → List ℕ
ten_keys ids directions =
    (8 * slice_index ids 0)
    ∷ (8 * slice_index ids 0 + slice_index directions 0)
    ∷ (8 * slice_index ids 0 + slice_index directions 1)
    ∷ (8 * slice_index ids 0 + slice_index directions 2)
    ∷ (8 * slice_index ids 1)
    ∷ (8 * slice_index ids 1 + slice_index directions 3)
    ∷ (8 * slice_index ids 1 + slice_index directions 4)
    ∷ (8 * slice_index ids 2)
    ∷ (8 * slice_index ids 2 + slice_index directions 5)
    ∷ (8 * slice_index ids 3)
    ∷ []

-- the frame is that of each lattice tetrahedron of this kind
abbrev pub IsFrameOfKind : ℕ → Frame → Type 0
IsFrameOfKind kind frame = (tet : List Vertex) (ids : List ℕ) → IsNumberedTet tet ids → kind_number (slot tet 0) (slot tet 1) (slot tet 2) ≡ kind → FitsFrame tet frame
