-- Workers: before they begin, on the way, and at their end.
use Rattle.std.specs.Prelude.{◌≡◌, ℕ, ◌+◌, ◌-◌, ◌≤◌, List, [], true, false, length, flat_map, map, reverse, sum_by}
use Rattle.definitions.specs.declared.Dims.{Dims}
use Rattle.definitions.specs.Lattice.{layers}
use Rattle.definitions.specs.Layout.{reach, reach_from, reach_to}
use Rattle.list_words.specs.Words.{has, has_all}
use Rattle.slab_claims.specs.Seats.{ClaimsValue}
use Rattle.layer_cells.specs.Seats.{CellsValue}
use Rattle.slab_survey.specs.Workers.{WorkerValue}
use Rattle.slab_survey.specs.Layers.{counts_of_layers, slab_layers, vertices_in, MadeOnce}

-- the layers of these slabs
abbrev pub layers_of : Dims → ℕ → List ℕ → List ℕ
layers_of d t slabs = flat_map (slab_layers d t) slabs

-- how many layers are in the reaches of these slabs, where each is counted for each reach
abbrev pub reached : Dims → ℕ → List ℕ → ℕ
reached d t slabs = sum_by (λ j. reach_to d t j - reach_from t j) slabs

-- the layers in the reach of each of these slabs are known
abbrev pub KnowsReaches : Dims → ℕ → List ℕ → List ℕ → Type 0
KnowsReaches d t slabs seen = (j : ℕ) → has j slabs ≡ true → has_all (reach d t j) seen ≡ true

-- a worker that has done nothing
pub record IsReady {L : Type 0} (d : Dims) (a : ClaimsValue) (b : CellsValue) (w : WorkerValue L) : Type 0 where
  pub of : w.claims.of ≡ a
  pub cells_of : w.cells.of ≡ b
  pub not_done : w.claims.done ≡ false
  pub none_drawn : w.claims.drawn ≡ []
  pub none_made : w.cells.made ≡ []
  pub no_counts : w.counts ≡ []
  pub room : layers d ≤ w.room

-- A worker that has surveyed these slabs since it was v. `count` is the meaning of its ledger.
pub record IsGoing {L : Type 0} (count : L → ℕ) (d : Dims) (t : ℕ) (a : ClaimsValue) (b : CellsValue) (v w : WorkerValue L) (slabs : List ℕ) : Type 0 where
  pub of : w.claims.of ≡ a
  pub cells_of : w.cells.of ≡ b
  pub share : w.claims.share ≡ v.claims.share
  pub knows : KnowsReaches d t slabs w.cells.seen
  pub counts : w.counts ≡ counts_of_layers b.subject (layers_of d t slabs)
  pub few : length w.cells.made ≤ reached d t slabs
  pub once : MadeOnce (layers d) w.cells
  pub ledger : count w.ledger ≡ count v.ledger + vertices_in d w.cells.made
  pub room : layers d ≤ w.room

-- a worker that has surveyed all slabs that it drew, and found that there are no more
pub record IsEnded {L : Type 0} (d : Dims) (t : ℕ) (a : ClaimsValue) (b : CellsValue) (w : WorkerValue L) : Type 0 where
  pub of : w.claims.of ≡ a
  pub cells_of : w.cells.of ≡ b
  pub done : w.claims.done ≡ true
  pub knows : KnowsReaches d t w.claims.drawn w.cells.seen
  pub counts : w.counts ≡ counts_of_layers b.subject (layers_of d t w.claims.drawn)
  pub few : length w.cells.made ≤ reached d t w.claims.drawn
  pub once : MadeOnce (layers d) w.cells

-- the shares of the workers together
abbrev pub shares_of : {L : Type 0} → List (WorkerValue L) → ℕ
shares_of ws = sum_by (λ w. w.claims.share) ws

-- their ledgers, from the last worker to the first
abbrev pub ledgers_back : {L : Type 0} → List (WorkerValue L) → List L
ledgers_back ws = map (λ w. w.ledger) (reverse ws)

-- the layers that they made, from the last worker to the first
abbrev pub made_back : {L : Type 0} → List (WorkerValue L) → List (List ℕ)
made_back ws = map (λ w. w.cells.made) (reverse ws)
