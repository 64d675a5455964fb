-- How the ledgers of workers rise.
use Rattle.std.specs.Prelude.{◌≡◌, ℕ, ◌+◌, ◌<◌, List, [], length, slice_index_or}
use Rattle.std.specs.List.{concat}
use Rattle.definitions.specs.declared.Dims.{Dims}
use Rattle.slab_survey.specs.Layers.{vertices_in}

-- Each ledger rose by the vertices of the layers that its worker made, and these layers, worker by worker, are those made in all. `count` is the meaning of a ledger.
pub record Rise {L : Type 0} (count : L → ℕ) (d : Dims) (before after : List L) (made : List ℕ) : Type 0 where
  pub parts : List (List ℕ)
  pub whole : concat parts ≡ made
  pub workers : length parts ≡ length before
  pub ledgers : length after ≡ length before
  pub each : (k : ℕ) (l : L) → k < length before → count (slice_index_or after k l) ≡ count (slice_index_or before k l) + vertices_in d (slice_index_or parts k [])
