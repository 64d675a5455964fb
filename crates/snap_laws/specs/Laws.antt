-- What follows from the rule of snapping.
use Rattle.std.specs.Prelude.{◌≡◌, ◌≤◌, ℕ, true, map, Some, IsSomeAnd}
use Rattle.std.specs.List.{range_with_len}
use Rattle.definitions.specs.declared.Vertex.{Vertex}
use Rattle.definitions.specs.Lattice.{InDomain, neighbour}
use Rattle.definitions.specs.Values.{Field, value}
use Rattle.definitions.specs.Cuts.{are_opposite, cut_number}
use Rattle.definitions.specs.States.{IsState, Shares, state_of, sign_of_state}
use Rattle.snap_laws.specs.Around.{around, state_here}

-- The state of a vertex follows from its value and those at the other ends of its edges.
abbrev pub StatesByValues : Type 0
StatesByValues = (f : Field) (s : Shares) (v : Vertex) → InDomain f.dims v → state_of f s v ≡ state_here s (value f v) (map (around f v) (range_with_len 1 14))

-- What the rule says of a vertex is a state.
abbrev pub StatesAreStates : Type 0
StatesAreStates = (f : Field) (s : Shares) (v : Vertex) → InDomain f.dims v → IsState (state_of f s v)

-- After snapping the cut on an edge from Plus to Minus is at neither end.
abbrev pub CutsLeftAreInner : Type 0
CutsLeftAreInner =
    (f : Field) (s : Shares) (u w : Vertex) (dir : ℕ) → InDomain f.dims u → 1 ≤ dir → dir ≤ 7 → neighbour f.dims u dir true ≡ Some w
    → are_opposite (sign_of_state (state_of f s u)) (sign_of_state (state_of f s w)) ≡ true
    → IsSomeAnd (cut_number (value f u) (value f w)) (λ k. (1 ≤ k) × (k ≤ 4095))
