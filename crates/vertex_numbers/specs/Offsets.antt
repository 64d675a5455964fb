-- The counts of layers, each with the sums of those below it.
use Rattle.std.specs.Prelude.{◌≡◌, ℕ, ◌<◌, List, length, map, take, sum_by, slice_index_or}
use Rattle.vertex_numbers.specs.declared.counts.LayerCount.{LayerCount}
use Rattle.vertex_numbers.specs.declared.offsets.Offset.{Offset}

abbrev pub counts_of : List Offset → List LayerCount
counts_of offsets = map (λ o. o.count) offsets

abbrev pub nodes_in : List LayerCount → ℕ
nodes_in counts = sum_by (λ c. c.nodes) counts

abbrev pub tets_in : List LayerCount → ℕ
tets_in counts = sum_by (λ c. c.tets) counts

-- each has the sums of those before it, and these are the sums of all
pub record AreOffsets (offsets : List Offset) (nodes tets : ℕ) : Type 0 where
  pub node_starts : (h : ℕ) (o : Offset) → h < length offsets → (slice_index_or offsets h o).nodes_below ≡ nodes_in (take h (counts_of offsets))
  pub tet_starts : (h : ℕ) (o : Offset) → h < length offsets → (slice_index_or offsets h o).tets_below ≡ tets_in (take h (counts_of offsets))
  pub all_nodes : nodes ≡ nodes_in (counts_of offsets)
  pub all_tets : tets ≡ tets_in (counts_of offsets)
