-- What workers leave together, with the counts of layers in a table.
use Rattle.std.specs.Prelude.{◌≡◌, ℕ, ◌<◌, ◌≤◌, List, [], ◌∷◌, true, length, slice_index_or, slice_set}
use Rattle.definitions.specs.Lattice.{layers}
use Rattle.definitions.specs.States.{states}
use Rattle.list_words.specs.Words.{has}
use Rattle.slab_claims.specs.Seats.{ClaimsValue}
use Rattle.layer_cells.specs.Seats.{CellsValue, Subject}
use Rattle.vertex_numbers.specs.declared.LayerCount.{LayerCount}
use Rattle.vertex_numbers.specs.Counts.{count_of_layer}
use Rattle.survey_workers.specs.Going.{layers_of, reached, KnowsReaches}
use Rattle.survey_workers.specs.declared.gathering.Gathered.{Gathered}

-- each of these counts is put in at its layer
abbrev pub with_counts : List LayerCount → List LayerCount → List LayerCount
with_counts table [] = table
with_counts table (c ∷ cs) = with_counts (slice_set table c.h c) cs

-- the table has what the mesh has in layer h
abbrev pub IsRight : Subject → List LayerCount → ℕ → Type 0
IsRight a table h = (c : LayerCount) → h < length table → slice_index_or table h c ≡ count_of_layer a.field.dims (states a.field a.shares) h

-- it has this for each of these layers
abbrev pub AreRight : Subject → List LayerCount → List ℕ → Type 0
AreRight a table hs = (h : ℕ) → has h hs ≡ true → IsRight a table h

-- The seats are of these claims and cells, all workers found that there are no more slabs, and the layers in the reaches of all slabs drawn are known; the table has the counts of all layers of these slabs.
pub record IsGathered (t : ℕ) (a : ClaimsValue) (b : CellsValue) (all : Gathered) : Type 0 where
  pub of : all.claims.of ≡ a
  pub cells_of : all.cells.of ≡ b
  pub done : all.claims.done ≡ true
  pub knows : KnowsReaches b.subject.field.dims t all.claims.drawn all.cells.seen
  pub few : length all.cells.made ≤ reached b.subject.field.dims t all.claims.drawn
  pub made : all.made ≡ length all.cells.made
  pub room : length all.table.items ≡ layers b.subject.field.dims
  pub counts : AreRight b.subject all.table.items (layers_of b.subject.field.dims t all.claims.drawn)
