-- The signs at a vertex and at its neighbours, and what they say of the nodes there and of the tetrahedra whose lowest vertex it is.
use Rattle.std.specs.Prelude.{ℕ, ◌+◌, ◌-◌, ◌*◌, ◌==◌, Bool, true, false, ◌||◌, List, [], ◌∷◌, map, count_by, Option, Some, None, if◌then◌else◌}
use Rattle.std.specs.Option.{option_map}
use Rattle.std.specs.List.{list_any, range_with_len}
use Rattle.definitions.specs.declared.Dims.{Dims}
use Rattle.definitions.specs.declared.Vertex.{Vertex}
use Rattle.definitions.specs.declared.State.{State}
use Rattle.definitions.specs.declared.Sign.{Sign}
use Rattle.definitions.specs.declared.Sign.TheVariants.{Minus, Zero, Plus}
use Rattle.definitions.specs.Lattice.{neighbour}
use Rattle.definitions.specs.Cuts.{are_opposite}
use Rattle.definitions.specs.States.{sign_of_state}
use Rattle.definitions.specs.Stencils.{is_plus, is_minus}

-- the sign of the neighbour upwards or downwards in a direction, if it is in the domain
abbrev pub sign_towards : Dims → (Vertex → State) → Vertex → Bool → ℕ → Option Sign
sign_towards d told v up dir = option_map (λ w. sign_of_state (told w)) (neighbour d v dir up)

-- those in directions 1 to 7
abbrev pub signs_towards : Dims → (Vertex → State) → Vertex → Bool → List (Option Sign)
signs_towards d told v up = map (sign_towards d told v up) (range_with_len 1 7)

abbrev pub is_plus_there : Option Sign → Bool
is_plus_there None = false
is_plus_there (Some s) = is_plus s

abbrev pub has_plus_there : List (Option Sign) → Bool
has_plus_there signs = list_any is_plus_there signs

-- one is Plus and the other Minus
abbrev pub crosses : Sign → Option Sign → Bool
crosses s None = false
crosses s (Some t) = are_opposite s t

-- a vertex is a node where it is Plus, or Zero beside Plus
abbrev pub is_node : Sign → Bool → Bool
is_node Minus beside = false
is_node Plus beside = true
is_node Zero beside = beside

-- whether the node at a vertex in a direction occurs: the vertex itself in direction 0, and the cut on its edge upwards in directions 1 to 7
abbrev pub node_towards : Dims → (Vertex → State) → Vertex → ℕ → Bool
node_towards d told v dir =
    if dir == 0
    then is_node (sign_of_state (told v)) (has_plus_there (signs_towards d told v true) || has_plus_there (signs_towards d told v false))
    else crosses (sign_of_state (told v)) (sign_towards d told v true dir)

abbrev pub nodes_of : Dims → (Vertex → State) → Vertex → List Bool
nodes_of d told v = map (node_towards d told v) (range_with_len 0 8)

-- how many pieces a lattice tetrahedron of these signs has
abbrev pub pieces_of_signs : List Sign → ℕ
pieces_of_signs signs = let plus = count_by is_plus signs in if plus == 0 then 0 else 1 + (plus - 1) * count_by is_minus signs

-- those of a vertex with three of its neighbours, if all are in the domain
abbrev pub pieces_with : Sign → Option Sign → Option Sign → Option Sign → ℕ
pieces_with s (Some a) (Some b) (Some c) = pieces_of_signs (s ∷ a ∷ b ∷ c ∷ [])
pieces_with s a b c = 0

-- those of all lattice tetrahedra whose lowest vertex has these signs upwards
abbrev pub pieces_up : Sign → List (Option Sign) → ℕ
pieces_up s (a ∷ b ∷ c ∷ d ∷ e ∷ f ∷ g ∷ []) =
    pieces_with s a d f + pieces_with s b e f + pieces_with s c d g + pieces_with s c e g + pieces_with s d f g + pieces_with s e f g
pieces_up s signs = 0

abbrev pub pieces_from : Dims → (Vertex → State) → Vertex → ℕ
pieces_from d told v = pieces_up (sign_of_state (told v)) (signs_towards d told v true)
