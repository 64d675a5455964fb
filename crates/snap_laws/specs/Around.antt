-- Snapping by the values around a vertex alone: no ids, and no neighbours but their values.
use Rattle.std.specs.Prelude.{ℕ, ◌+◌, ◌-◌, ◌≤◌, List, filter_map, ℤ, pos, Option, option_and_then, slice_index_or, if◌then◌else◌}
use Rattle.std.specs.Option.{option_map_or}
use Rattle.std.specs.List.{range_with_len}
use Rattle.definitions.specs.declared.Vertex.{Vertex}
use Rattle.definitions.specs.declared.Near.{Near}
use Rattle.definitions.specs.declared.State.{State}
use Rattle.definitions.specs.Lists.{least_by}
use Rattle.definitions.specs.Lattice.{neighbour}
use Rattle.definitions.specs.Values.{Field, value, sign_of}
use Rattle.definitions.specs.Cuts.{scale, cut_number}
use Rattle.definitions.specs.States.{Shares, is_up, direction_of, near_at, is_nearer, snapped}

-- the value at the other end of edge 1 to 14 of v; 0, which makes no cut, where that is outside the domain
abbrev pub around : Field → Vertex → ℕ → ℤ
around f v edge = option_map_or (value f) (neighbour f.dims v (direction_of edge) (is_up edge)) (pos 0)

-- the order of the keys of the cuts at a vertex: first the edges downwards, from 14 to 8, then those upwards, from 1 to 7
abbrev pub rank : ℕ → ℕ
rank edge = if is_up edge then edge + 7 else 15 - edge

-- the cut number on edge 1 to 14, from the value at the vertex and the one at the other end
abbrev pub number_of_cut : ℤ → ℤ → ℕ → Option ℕ
number_of_cut own other edge = if is_up edge then cut_number own other else cut_number other own

-- its distance from the vertex
abbrev pub distance_of_cut : ℕ → ℕ → ℕ
distance_of_cut edge k = if is_up edge then k else scale - k

-- the near cut on an edge, with its rank in place of its key
unfoldable pub near_here : Shares → ℤ → ℤ → ℕ → Option Near
near_here s own other edge = option_and_then (λ k. near_at s edge k (distance_of_cut edge k) (rank edge)) (number_of_cut own other edge)

-- the value at the other end of an edge in the list of those of edges 1 to 14
abbrev pub value_on : List ℤ → ℕ → ℤ
value_on values edge = slice_index_or values (edge - 1) (pos 0)

-- the near cuts of a vertex, and its state
unfoldable pub nears_here : Shares → ℤ → List ℤ → List Near
nears_here s own values = filter_map (λ edge. near_here s own (value_on values edge) edge) (range_with_len 1 14)

unfoldable pub state_here : Shares → ℤ → List ℤ → State
state_here s own values = snapped (sign_of own) (least_by is_nearer (nears_here s own values))

-- a cut on an edge 1 to 14, with a number up to the scale
pub record IsNearCut (n : Near) : Type 0 where
  pub low : 1 ≤ n.edge
  pub high : n.edge ≤ 14
  pub within : n.k ≤ 4096
