-- Which nodes occur in the mesh and how many pieces it has, read off the states of a vertex and of those near it.
use Rattle.std.specs.Prelude.{◌≡◌, ℕ, ◌+◌, ◌-◌, ◌/◌, ◌%◌, ◌≤◌, Bool, true, false, ◌||◌, ◌==◌, nat_eq, nat_le, min, List, length, map, sum, if◌then◌else◌}
use Rattle.std.specs.Option.{option_map_or}
use Rattle.std.specs.List.{list_any, range_with_len}
use Rattle.definitions.specs.declared.Dims.{Dims}
use Rattle.definitions.specs.declared.Vertex.{Vertex}
use Rattle.definitions.specs.Lattice.{InDomain, id, neighbour, vertex_at}
use Rattle.definitions.specs.States.{direction_of, is_up, sign_of_state}
use Rattle.definitions.specs.Cuts.{are_opposite}
use Rattle.definitions.specs.Mesh.{state_at}
use Rattle.definitions.specs.Tetrahedra.{tets_from}
use Rattle.definitions.specs.Pieces.{pieces}
use Rattle.stencil_laws.specs.Cases.{case_pieces}
use Rattle.definitions.specs.declared.State.{State}
use Rattle.definitions.specs.declared.State.TheVariants as state

-- what a list of the states of all vertices says of a vertex
abbrev pub told : Dims → List State → Vertex → State
told d ss v = state_at ss (id d v)

-- the state is Plus
abbrev pub is_plus_state : State → Bool
is_plus_state state.Minus = false
is_plus_state state.Plus = true
is_plus_state (state.Zero edge k) = false

-- the neighbour on an edge 1 to 14 is Plus
abbrev pub plus_on : Dims → (Vertex → State) → Vertex → ℕ → Bool
plus_on d told v edge = option_map_or (λ w. is_plus_state (told w)) (neighbour d v (direction_of edge) (is_up edge)) false

-- of the ends of the edge in a direction one is Plus and the other Minus
abbrev pub cut_on : Dims → (Vertex → State) → Vertex → ℕ → Bool
cut_on d told v dir = option_map_or (λ w. are_opposite (sign_of_state (told v)) (sign_of_state (told w))) (neighbour d v dir true) false

-- whether a vertex is a node: it is Plus, or it is Zero and a neighbour is Plus
abbrev pub vertex_used : Dims → (Vertex → State) → Vertex → State → Bool
vertex_used d told v state.Minus = false
vertex_used d told v state.Plus = true
vertex_used d told v (state.Zero edge k) = list_any (plus_on d told v) (range_with_len 1 14)

-- whether the node with a key occurs, by the states of its vertex and its neighbours
abbrev pub used_at : Dims → (Vertex → State) → ℕ → Bool
used_at d told key = let v = vertex_at d (key / 8) in if nat_eq (key % 8) 0 then vertex_used d told v (told v) else cut_on d told v (key % 8)

-- the same is told of the vertices of layer h, of the two layers below it and of the two above
abbrev pub AgreeAround : Dims → ℕ → (Vertex → State) → (Vertex → State) → Type 0
AgreeAround d h told others = (v : Vertex) → InDomain d v → h ≤ v.h + 2 → v.h ≤ h + 2 → told v ≡ others v

-- the pieces of a lattice tetrahedron, by what is told of its vertices
abbrev pub pieces_of : Dims → (Vertex → State) → List Vertex → List (List ℕ)
pieces_of d told tet = pieces tet (map (id d) tet) (map (λ w. sign_of_state (told w)) tet)

-- how many pieces the lattice tetrahedra have whose lowest vertex is v
abbrev pub pieces_from : Dims → (Vertex → State) → Vertex → ℕ
pieces_from d told v = sum (map (λ tet. length (case_pieces (map (λ w. sign_of_state (told w)) tet))) (tets_from d v))

-- how many pieces a lattice tetrahedron has, by how many of its vertices are Plus and how many are Minus
abbrev pub shape_pieces : ℕ → ℕ → ℕ
shape_pieces plus minus = if nat_le plus 1 || minus == 0 then min plus 1 else plus + minus - 1
