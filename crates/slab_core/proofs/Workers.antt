-- One worker of a state: what is so of it, and a state in which it has changed.
use Rattle.std.proofs.Common.{◌≡◌, ◌⊎◌, inr, ℕ, zero, suc, ◌+◌, ◌*◌, ◌<◌, ◌≤◌, min, List, [], ◌∷◌, ◌++◌, length, set, Bool, true, false, not, if◌then◌else◌, refl, ap, ◌∙◌, ⊎_elim, arith}
use Rattle.std.specs.Prelude.{slice_index, slice_index_or, nat_lt, ◌/◌, ◌%◌}
use Rattle.std.specs.Int.{div_ceil}
use Rattle.std.proofs.Math.Nat.{mul-le-mul_left}
use Rattle.std.specs.List.{list_any}
use Rattle.std.proofs.lemmas.Bool.Decides.{nat_tests}
use Rattle.std.proofs.lemmas.List.{length-set}
use Rattle.std.proofs.lemmas.List.Sums.{sum_by-set, get_or-le-sum_by}
use Rattle.std.proofs.lemmas.List.Elements.{All-set, All-weaker, All-get_or}
use Rattle.std.proofs.lemmas.List.Folds.{list_any-append}
use Rattle.std.proofs.lemmas.Bool.{and_parts, not-true, or_left}
use Rattle.definitions.specs.Lattice.{vertices, layers}
use Rattle.definitions.specs.Layout.{layer_start, layer_len, is_in_reach}
use Rattle.list_words.specs.Words.{has, times, once_below}
use Rattle.list_words.proofs.Sums.{times-flat_map}
use Rattle.list_words.proofs.Lists.{has_times}
use Rattle.slab_core.specs.States.{WorkerState, CoreState, new_worker}
use Rattle.slab_core.specs.Steps.{worker, is_up, slab_count, reaches, is_there}
use Rattle.slab_core.specs.Sound.{HasWanted, IsSoundWorker, IsSound}

-- a live worker is there
pub record IsLive (s : CoreState) (w : ℕ) : Type 0 where
  pub within : w < length s.workers
  pub stays : (worker s w).gone ≡ false

pub live : (s : CoreState) (w : ℕ) → is_there s w ≡ true → IsLive s w
live s w l =
    let b = and_parts (nat_lt w (length s.workers)) (not (worker s w).gone) l in
    record { within = (let t = b.0 in grind (arith, nat_tests)); stays = not-true (worker s w).gone b.1 }

pub sound_worker : (s : CoreState) (w : ℕ) → IsSound s → w < length s.workers → IsSoundWorker s (worker s w)
sound_worker s w k lt = All-get_or (IsSoundWorker s) s.workers w new_worker lt k.each

pub reaches_more : (s : CoreState) (k : WorkerState) (n h : ℕ) → reaches s k h ≡ true → reaches s (record k { drawn = k.drawn ++ n ∷ [] }) h ≡ true
reaches_more s k n h e = list_any-append (λ j. is_in_reach s.dims s.slab j h) k.drawn (n ∷ []) ∙ or_left (reaches s k h) (list_any (λ j. is_in_reach s.dims s.slab j h) (n ∷ [])) e

-- a slab that a worker drew is a slab, and begins below the last layer
pub drawn_below : (s : CoreState) (w j : ℕ) → IsSound s → w < length s.workers → has j (worker s w).drawn ≡ true → j < slab_count s
drawn_below s w j k lt e =
    let a = times-flat_map (λ (v : WorkerState). v.drawn) j s.workers in
    let b = get_or-le-sum_by (λ (v : WorkerState). times j v.drawn) s.workers w new_worker lt in
    let h = has_times j (worker s w).drawn e in
    let o = k.drawn_once j in
    below j (min s.next (slab_count s)) (slab_count s) (omega arith) (omega arith)
  where
    below : (j m n : ℕ) → 1 ≤ once_below j m → m ≤ n → j < n
    below j m n o le = by_test (nat_lt j m) refl o
      where
        by_test : (b : Bool) → nat_lt j m ≡ b → 1 ≤ (if b then 1 else 0) → j < n
        by_test true e o = let l : j < m = grind (arith, nat_tests) in omega arith
        by_test false e o = absurd (omega arith)

pub slab_begins : (s : CoreState) (j : ℕ) → IsSound s → j < slab_count s → 2 * s.slab * j < layers s.dims
slab_begins s j k lt = begins (layers s.dims) (2 * s.slab) j (let o = k.shaped.layout.low in omega arith) lt
  where
    begins : (l m j : ℕ) → 0 < m → j < div_ceil l m → m * j < l
    begins l m j some lt = by_rest (l % m) refl
      where
        by_rest : (r : ℕ) → l % m ≡ r → m * j < l
        by_rest zero e = let p = mul-le-mul_left m (let q : j + 1 ≤ l / m = omega arith in q) in omega arith
        by_rest (suc r) e = let p = mul-le-mul_left m (let q : j ≤ l / m = omega arith in q) in omega arith

-- words that are wanted stay so, and flags that are up stay up
pub record Stay (s : CoreState) (words : List ℕ) (flags : List Bool) : Type 0 where
  pub words_stay : (id : ℕ) → id < length (vertices s.dims) → HasWanted s id → slice_index words id ≡ slice_index s.wanted id
  pub flags_stay : (h : ℕ) → is_up s h ≡ true → slice_index_or flags h false ≡ true

abbrev pub moved : CoreState → ℕ → List ℕ → List Bool → List WorkerState → CoreState
moved s n words flags workers = record s { next = n; words = words; flags = flags; workers = workers }

-- what is so of a worker stays so
pub still : (s : CoreState) (n : ℕ) (words : List ℕ) (flags : List Bool) (ws : List WorkerState) (k : WorkerState) → s.next ≤ n → Stay s words flags → IsSoundWorker s k → IsSoundWorker (moved s n words flags ws) k
still s n words flags ws k le st f = record {
  out = λ o. let p = f.out o in omega arith;
  put = λ id e. let p = f.put id e in (p.0, st.words_stay id p.0 p.1);
  seen = λ h e. let u = f.seen h e in (u.0, st.flags_stay h u.1);
  down = f.down;
  made = λ h e. let m = f.made h e in record { seen = m.seen; not_down = m.not_down; once = m.once; reached = m.reached };
  got = f.got;
  done = f.done;
  done_once = f.done_once;
  gone = f.gone;
}

abbrev pub bit : Bool → ℕ
bit b = if b then 1 else 0

-- What an event owes where worker w becomes u: the numbers drawn, who is out, and what is shared.
pub record IsStep (s : CoreState) (w : ℕ) (u : WorkerState) (n : ℕ) (words : List ℕ) (flags : List Bool) : Type 0 where
  pub rises : s.next ≤ n
  pub words_len : length words ≡ length s.words
  pub flags_len : length flags ≡ length s.flags
  pub stay : Stay s words flags
  pub drawn : (x : ℕ) → times x u.drawn + once_below x (min s.next (slab_count s)) ≡ times x (worker s w).drawn + once_below x (min n (slab_count s))
  pub near : (n ≤ slab_count s) ⊎ (n + bit (worker s w).out ≤ s.next + bit u.out)
  pub codes : (id : ℕ) → id < length (vertices s.dims) → (slice_index words id ≡ 0) ⊎ (slice_index words id ≡ slice_index s.wanted id)
  pub whole : (h : ℕ) → h < layers s.dims → slice_index_or flags h false ≡ true → (id : ℕ) → layer_start s.dims h ≤ id → id < layer_start s.dims h + layer_len s.dims h → slice_index words id ≡ slice_index s.wanted id

pub step_sound : (s : CoreState) (w : ℕ) (u : WorkerState) (n : ℕ) (words : List ℕ) (flags : List Bool)
    → IsSound s → w < length s.workers → IsStep s w u n words flags → IsSoundWorker (moved s n words flags (set s.workers w u)) u → IsSound (moved s n words flags (set s.workers w u))
step_sound s w u n words flags k lt step fits = record {
  shaped = record {
    layout = k.shaped.layout;
    wanted = k.shaped.wanted;
    words = step.words_len ∙ k.shaped.words;
    flags = step.flags_len ∙ k.shaped.flags;
    some = let l = length-set s.workers w u in let o = k.shaped.some in omega arith;
    few = let l = length-set s.workers w u in let o = k.shaped.few in omega arith;
  };
  drawn_once = λ x.
      let f : WorkerState → ℕ = λ v. times x v.drawn in
      let t = sum_by-set f s.workers w u new_worker lt in
      let a = times-flat_map (λ (v : WorkerState). v.drawn) x s.workers in
      let b = times-flat_map (λ (v : WorkerState). v.drawn) x (set s.workers w u) in
      let o = k.drawn_once x in
      let d = step.drawn x in
      omega arith;
  next_near =
      let t = sum_by-set (λ (v : WorkerState). bit v.out) s.workers w u new_worker lt in
      let o = k.next_near in
      ⊎_elim (λ (d : n ≤ slab_count s). omega arith) (λ (d : n + bit (worker s w).out ≤ s.next + bit u.out). omega arith) step.near;
  words = step.codes;
  flags = step.whole;
  each = All-set (IsSoundWorker (moved s n words flags (set s.workers w u))) s.workers w u fits
      (All-weaker (IsSoundWorker s) (IsSoundWorker (moved s n words flags (set s.workers w u))) (λ v f. still s n words flags (set s.workers w u) v step.rises step.stay f) s.workers k.each);
}

-- nothing that is shared changes
pub quiet : (s : CoreState) (w : ℕ) (u : WorkerState) → IsSound s → u.drawn ≡ (worker s w).drawn → u.out ≡ (worker s w).out → IsStep s w u s.next s.words s.flags
quiet s w u k drawn out = record {
  rises = omega arith;
  words_len = refl;
  flags_len = refl;
  stay = nothing s;
  drawn = λ x. ap (λ (l : List ℕ). times x l + once_below x (min s.next (slab_count s))) drawn;
  near = inr (let e : bit u.out ≡ bit (worker s w).out = ap bit out in omega arith);
  codes = k.words;
  whole = k.flags;
}
  where
    nothing : (s : CoreState) → Stay s s.words s.flags
    nothing s = record { words_stay = λ id lt e. e; flags_stay = λ h e. e }
