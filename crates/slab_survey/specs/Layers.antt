-- What a survey of layers makes of a seat.
use Rattle.std.specs.Prelude.{◌≡◌, ℕ, ◌-◌, ◌<◌, ◌≤◌, List, ◌++◌, filter, map, not, true, sum_by}
use Rattle.std.specs.List.{range_with_len}
use Rattle.definitions.specs.declared.Dims.{Dims}
use Rattle.definitions.specs.Layout.{layer_len, slab_from, slab_to}
use Rattle.definitions.specs.States.{states}
use Rattle.lattice_laws.specs.Ascending.{IsPart}
use Rattle.list_words.specs.Words.{has, has_all, once_below, times}
use Rattle.layer_cells.specs.Seats.{CellSeatValue, Subject}
use Rattle.vertex_numbers.specs.declared.LayerCount.{LayerCount}
use Rattle.vertex_numbers.specs.Counts.{count_of_layer}

-- the layers of slab j, in order
abbrev pub slab_layers : Dims → ℕ → ℕ → List ℕ
slab_layers d t j = range_with_len (slab_from t j) (slab_to d t j - slab_from t j)

-- those of these layers that are not among the known ones
abbrev pub unknown : List ℕ → List ℕ → List ℕ
unknown seen hs = filter (λ h. not (has h seen)) hs

-- how many vertices these layers have
abbrev pub vertices_in : Dims → List ℕ → ℕ
vertices_in d hs = sum_by (layer_len d) hs

-- what the mesh has in these layers
abbrev pub counts_of_layers : Subject → List ℕ → List LayerCount
counts_of_layers a hs = map (count_of_layer a.field.dims (states a.field a.shares)) hs

-- A seat before and after a survey of some layers: it knows them all now, and what it knew before; the layers that it made are `grown`, in order, and each is one of those that it didn't know before.
pub record Surveys (hs : List ℕ) (old new : CellSeatValue) (grown : List ℕ) : Type 0 where
  pub of : new.of ≡ old.of
  pub known : has_all hs new.seen ≡ true
  pub kept : (h : ℕ) → has h old.seen ≡ true → has h new.seen ≡ true
  pub made : new.made ≡ old.made ++ grown
  pub news : IsPart grown (unknown old.seen hs)

-- the layers that a seat made are different ones below their number, and it knows them
pub record MadeOnce (layers : ℕ) (s : CellSeatValue) : Type 0 where
  pub once : (h : ℕ) → times h s.made ≤ once_below h layers
  pub known : (h : ℕ) → has h s.made ≡ true → has h s.seen ≡ true

-- A seat before and after it put the ids from one up to another: it has these, and those that it had before, and all else is as it was.
pub record HasPut (from to : ℕ) (old new : CellSeatValue) : Type 0 where
  pub rest : new ≡ record old { put = new.put }
  pub kept : (id : ℕ) → has id old.put ≡ true → has id new.put ≡ true
  pub ids : (id : ℕ) → from ≤ id → id < to → has id new.put ≡ true
