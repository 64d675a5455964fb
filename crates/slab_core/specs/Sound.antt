-- What holds in each state that events lead to.
use Rattle.std.specs.Prelude.{◌≡◌, ◌⊎◌, ◌+◌, ◌<◌, ◌≤◌, ℕ, true, false, List, length, min, slice_index, flat_map, count_by, All}
use Rattle.definitions.specs.Lattice.{vertices, layers}
use Rattle.definitions.specs.Layout.{layer_start, layer_len}
use Rattle.bcc_lattice.specs.Layouts.{IsLayout}
use Rattle.list_words.specs.Words.{has, has_all, times, EachOnce}
use Rattle.slab_core.specs.States.{WorkerState, CoreState}
use Rattle.slab_core.specs.Steps.{is_up, slab_count, reaches, slabs_done, reach_words}

-- sizes of an image, a code and a word for each vertex, a flag for each layer, and 1 to 64 workers
pub record IsShaped (s : CoreState) : Type 0 where
  pub layout : IsLayout s.dims s.slab
  pub wanted : length s.wanted ≡ length (vertices s.dims)
  pub words : length s.words ≡ length (vertices s.dims)
  pub flags : length s.flags ≡ layers s.dims
  pub some : 1 ≤ length s.workers
  pub few : length s.workers ≤ 64

abbrev pub all_drawn : CoreState → List ℕ
all_drawn s = flat_map (λ (k : WorkerState). k.drawn) s.workers

abbrev pub count_out : CoreState → ℕ
count_out s = count_by (λ (k : WorkerState). k.out) s.workers

abbrev pub HasWanted : CoreState → ℕ → Type 0
HasWanted s id = slice_index s.words id ≡ slice_index s.wanted id

-- all words of layer h are those wanted
abbrev pub IsWhole : CoreState → ℕ → Type 0
IsWhole s h = (id : ℕ) → layer_start s.dims h ≤ id → id < layer_start s.dims h + layer_len s.dims h → HasWanted s id

-- A layer that the worker made: it sees it up and no longer down, made it once, and drew a slab that reaches it.
pub record IsMade (s : CoreState) (k : WorkerState) (h : ℕ) : Type 0 where
  pub seen : has h k.seen ≡ true
  pub not_down : has h k.down ≡ false
  pub once : times h k.made ≡ 1
  pub reached : reaches s k h ≡ true

-- what is so of one worker
pub record IsSoundWorker (s : CoreState) (k : WorkerState) : Type 0 where
  pub out : k.out ≡ true → slab_count s < s.next
  pub put : (id : ℕ) → has id k.put ≡ true → (id < length (vertices s.dims)) × HasWanted s id
  pub seen : (h : ℕ) → has h k.seen ≡ true → (h < layers s.dims) × (is_up s h ≡ true)
  pub down : (h : ℕ) → has h k.down ≡ true → has h k.seen ≡ false
  pub made : (h : ℕ) → has h k.made ≡ true → IsMade s k h
  pub got : All (λ (p : ℕ × ℕ). p.1 ≡ slice_index s.wanted p.0) k.got
  pub done : All (λ (p : ℕ × List ℕ). p.1 ≡ reach_words s s.wanted p.0) k.done
  pub done_once : (j : ℕ) → has j (slabs_done k) ≡ true → (has j k.drawn ≡ true) × (times j (slabs_done k) ≡ 1)
  pub gone : k.gone ≡ true → (k.out ≡ true) × (has_all k.drawn (slabs_done k) ≡ true)

-- The invariant of the core. The drawn lists of all workers together have each number below both the next one and the slabs once, and no other; a word is 0 or the one that is wanted; the layers whose flag is up are whole.
pub record IsSound (s : CoreState) : Type 0 where
  pub shaped : IsShaped s
  pub drawn_once : EachOnce (min s.next (slab_count s)) (all_drawn s)
  pub next_near : s.next ≤ slab_count s + count_out s
  pub words : (id : ℕ) → id < length (vertices s.dims) → (slice_index s.words id ≡ 0) ⊎ HasWanted s id
  pub flags : (h : ℕ) → h < layers s.dims → is_up s h ≡ true → IsWhole s h
  pub each : All (IsSoundWorker s) s.workers
