-- What follows for each state in which the invariant holds.
use Rattle.std.specs.Prelude.{◌≡◌, ◌+◌, ◌-◌, ◌*◌, ◌≤◌, ℕ, true, false, List, length, flat_map, All}
use Rattle.definitions.specs.Lattice.{layers}
use Rattle.list_words.specs.Words.{has, EachOnce}
use Rattle.slab_core.specs.States.{WorkerState, CoreState}
use Rattle.slab_core.specs.Steps.{slab_count, slabs_done, reach_words}

-- the layers made in all, those made twice among them
abbrev pub all_made : CoreState → List ℕ
all_made s = flat_map (λ (k : WorkerState). k.made) s.workers

abbrev pub all_done : CoreState → List ℕ
all_done s = flat_map slabs_done s.workers

abbrev pub FewMade : CoreState → Type 0
FewMade s = length (all_made s) ≤ layers s.dims + 4 * (slab_count s - 1)

-- the words of each slab that is done are those wanted in its reach
abbrev pub DoneRight : CoreState → Type 0
DoneRight s = All (λ (k : WorkerState). All (λ (p : ℕ × List ℕ). p.1 ≡ reach_words s s.wanted p.0) k.done) s.workers

-- what a worker's last looks told it: no layer stands both among those whose flag it saw up and among those whose flag it last saw down
abbrev pub LooksAgree : CoreState → Type 0
LooksAgree s = All (λ (k : WorkerState). (h : ℕ) → has h k.down ≡ true → has h k.seen ≡ false) s.workers

abbrev pub AllGone : CoreState → Type 0
AllGone s = All (λ (k : WorkerState). k.gone ≡ true) s.workers

-- Where all workers are gone, each slab is in one list of those done, once, with the words wanted in its reach.
pub record IsDone (s : CoreState) : Type 0 where
  pub each_once : EachOnce (slab_count s) (all_done s)
  pub right : DoneRight s
