-- What follows from the invariant: how many layers are made in all, and what is done where all workers are gone.
use Rattle.std.proofs.Common.{◌≡◌, ℕ, zero, suc, ◌+◌, ◌-◌, ◌*◌, ◌<◌, ◌≤◌, min, List, [], ◌∷◌, length, get_or, Bool, true, false, ◌==◌, ◌||◌, if◌then◌else◌, true≢false, refl, sym, ap, ◌∙◌, subst, ⊎_elim, arith}
use Rattle.std.specs.Prelude.{nat_lt, nat_le, All}
use Rattle.std.specs.List.{sum_by, list_any}
use Rattle.std.proofs.lemmas.Bool.Decides.{nat_tests}
use Rattle.std.proofs.lemmas.List.Sums.{sum_by-cons, get_or-le-sum_by}
use Rattle.std.proofs.lemmas.List.Elements.{All-head, All-tail, All-weaker}
use Rattle.std.proofs.lemmas.Bool.{and_parts, cases_Bool}
use Rattle.std.proofs.lemmas.List.Concat.{length-flat_map}
use Rattle.definitions.specs.Lattice.{layers}
use Rattle.definitions.specs.Layout.{reach_from, reach_to, is_in_reach}
use Rattle.list_words.specs.Words.{has, times, once_below, EachOnce}
use Rattle.list_words.proofs.Lists.{has_times, times_has, has_among}
use Rattle.list_words.proofs.Sums.{times-flat_map, sum_below, sum_once, without_run, run_once, run_length, outside_run, sum_by-flat_map, sums_agree}
use Rattle.slab_core.specs.States.{WorkerState, CoreState, new_worker}
use Rattle.slab_core.specs.Steps.{slab_count, slabs_done, reach_words}
use Rattle.slab_core.specs.Sound.{all_drawn, IsSoundWorker, IsSound}
use Rattle.slab_core.specs.Results.{all_made, all_done, LooksAgree, FewMade, AllGone, IsDone}

pub sums_rise : {X : Type 0} (f g : X → ℕ) (xs : List X) → All (λ x. f x ≤ g x) xs → sum_by f xs ≤ sum_by g xs
sums_rise f g [] all = omega arith
sums_rise f g (x ∷ xs) all =
    let a = sum_by-cons f x xs in
    let b = sum_by-cons g x xs in
    let h = All-head (λ x. f x ≤ g x) x xs all in
    let t = sums_rise f g xs (All-tail (λ x. f x ≤ g x) x xs all) in
    omega arith

-- how many layers the reach of slab j has
abbrev pub reach_len : CoreState → ℕ → ℕ
reach_len s j = reach_to s.dims s.slab j - reach_from s.slab j

-- different layers, each in the reach of one of these slabs
pub made_few : (s : CoreState) (drawn made : List ℕ) → ((x : ℕ) → times x made ≤ 1) → ((h : ℕ) → has h made ≡ true → list_any (λ j. is_in_reach s.dims s.slab j h) drawn ≡ true) → length made ≤ sum_by (reach_len s) drawn
made_few s [] [] once reached = omega arith
made_few s [] (x ∷ xs) once reached = absurd (true≢false (sym (reached x (first x xs))))
  where
    first : (x : ℕ) (xs : List ℕ) → has x (x ∷ xs) ≡ true
    first x xs = let e : (x == x) ≡ true = grind (arith, nat_tests) in ap (λ (b : Bool). b || has x xs) e
made_few s (j ∷ js) made once reached =
    let l = run_length (reach_from s.slab j) (reach_len s j) made once in
    let c = sum_by-cons (reach_len s) j js in
    let h = made_few s js (without_run (reach_from s.slab j) (reach_len s j) made) (λ x. run_once (reach_from s.slab j) (reach_len s j) x made (once x)) rest in
    omega arith
  where
    rest : (h : ℕ) → has h (without_run (reach_from s.slab j) (reach_len s j) made) ≡ true → list_any (λ i. is_in_reach s.dims s.slab i h) js ≡ true
    rest h e =
        let r = outside_run (reach_from s.slab j) (reach_len s j) h made e in
        by_test (is_in_reach s.dims s.slab j h) refl (reached h r.0) r.1
      where
        by_test : (b : Bool) → is_in_reach s.dims s.slab j h ≡ b → (b || list_any (λ i. is_in_reach s.dims s.slab i h) js) ≡ true → (reach_from s.slab j ≤ h → h < reach_from s.slab j + reach_len s j → ⊥) → list_any (λ i. is_in_reach s.dims s.slab i h) js ≡ true
        by_test true is q out =
            let p = and_parts (nat_le (reach_from s.slab j) h) (nat_lt h (reach_to s.dims s.slab j)) is in
            let lo : reach_from s.slab j ≤ h = at_most (reach_from s.slab j) h p.0 in
            let hi : h < reach_to s.dims s.slab j = below (reach_to s.dims s.slab j) h p.1 in
            absurd (out lo (inside (reach_from s.slab j) (reach_to s.dims s.slab j) h lo hi))
          where
            at_most : (a h : ℕ) → nat_le a h ≡ true → a ≤ h
            at_most a h e = grind (arith, nat_tests)

            below : (a h : ℕ) → nat_lt h a ≡ true → h < a
            below a h e = grind (arith, nat_tests)

            inside : (a b h : ℕ) → a ≤ h → h < b → h < a + (b - a)
            inside a b h lo hi = omega arith
        by_test false is q out = q

-- what a worker made is at most the reaches of the slabs that it drew
worker_made_few : (s : CoreState) (k : WorkerState) → IsSoundWorker s k → length k.made ≤ sum_by (reach_len s) k.drawn
worker_made_few s k f = made_few s k.drawn k.made (λ x. ⊎_elim (λ (t : has x k.made ≡ true). let o = (f.made x t).once in omega arith) (λ (n : has x k.made ≡ false). let z = times_has x k.made n in omega arith) (cases_Bool (has x k.made))) (λ h e. (f.made h e).reached)

-- the reaches of the first slabs together
reaches_bound : (s : CoreState) (n : ℕ) → 1 ≤ s.slab → sum_below (reach_len s) (suc n) ≤ min (2 * s.slab * (n + 1) + 2) (layers s.dims) + 4 * n
reaches_bound s n some = bound (2 * s.slab) (layers s.dims) n (omega arith)
  where
    bound : (m l n : ℕ) → 2 ≤ m → sum_below (λ j. min (min (m * (j + 1)) l + 2) l - (m * j - 2)) (suc n) ≤ min (m * (n + 1) + 2) l + 4 * n
    bound m l zero two = omega arith
    bound m l (suc n) two =
        let h = bound m l n two in
        let e : m * suc n ≡ m * (n + 1) = omega arith in
        let f : m * (suc n + 1) ≡ m * (n + 1) + m = omega arith in
        let g : 2 ≤ m * (n + 1) = (let p : m * (n + 1) ≡ m * n + m = omega arith in omega arith) in
        omega arith

sum_below_rises : (g : ℕ → ℕ) (m n : ℕ) → m ≤ n → sum_below g m ≤ sum_below g n
sum_below_rises g m n le = subst (λ (k : ℕ). sum_below g m ≤ sum_below g k) (let e : n - m + m ≡ n = omega arith in e) (more (n - m))
  where
    more : (k : ℕ) → sum_below g m ≤ sum_below g (k + m)
    more zero = let e : 0 + m ≡ m = omega arith in subst (λ (i : ℕ). sum_below g m ≤ sum_below g i) (sym e) (omega arith)
    more (suc k) = let e : suc k + m ≡ suc (k + m) = omega arith in let h = more k in subst (λ (i : ℕ). sum_below g m ≤ sum_below g i) (sym e) (let r : sum_below g m ≤ sum_below g (k + m) + g (k + m) = omega arith in r)

pub all_reaches : (s : CoreState) (n : ℕ) → 1 ≤ s.slab → sum_below (reach_len s) n ≤ layers s.dims + 4 * (n - 1)
all_reaches s zero some = omega arith
all_reaches s (suc n) some = let b = reaches_bound s n some in omega arith

pub few_made : (s : CoreState) → IsSound s → FewMade s
few_made s k =
    let a = length-flat_map (λ (v : WorkerState). v.made) s.workers in
    let b = sums_rise (λ (v : WorkerState). length v.made) (λ (v : WorkerState). sum_by (reach_len s) v.drawn) s.workers (All-weaker (IsSoundWorker s) (λ (v : WorkerState). length v.made ≤ sum_by (reach_len s) v.drawn) (worker_made_few s) s.workers k.each) in
    let c = sum_by-flat_map (reach_len s) (λ (v : WorkerState). v.drawn) s.workers in
    let d = sum_once (reach_len s) (min s.next (slab_count s)) (all_drawn s) k.drawn_once in
    let e = sum_below_rises (reach_len s) (min s.next (slab_count s)) (slab_count s) (omega arith) in
    let f = all_reaches s (slab_count s) k.shaped.layout.low in
    chain (length (all_made s)) _ _ _ _ _ _ a b c d e f
  where
    chain : (a b c d e f g : ℕ) → a ≡ b → b ≤ c → d ≡ c → d ≡ e → e ≤ f → f ≤ g → a ≤ g
    chain a b c d e f g p q r s t u = omega arith

pub looks_agree : (s : CoreState) → IsSound s → LooksAgree s
looks_agree s k = All-weaker (IsSoundWorker s) (λ (v : WorkerState). (h : ℕ) → has h v.down ≡ true → has h v.seen ≡ false) (λ v f. f.down) s.workers k.each

-- who is gone has done each slab that it drew, once
same_times : (s : CoreState) (k : WorkerState) (j : ℕ) → IsSoundWorker s k → k.gone ≡ true → times j k.drawn ≤ 1 → times j (slabs_done k) ≡ times j k.drawn
same_times s k j f gone le = ⊎_elim
    (λ (t : has j k.drawn ≡ true).
    let d = has_among j k.drawn (slabs_done k) (f.gone gone).1 t in
    let o = (f.done_once j d).1 in
    let h = has_times j k.drawn t in
    omega arith)
    (λ (n : has j k.drawn ≡ false).
    let z = times_has j k.drawn n in
    let y = times_has j (slabs_done k) (undone n) in
    omega arith)
    (cases_Bool (has j k.drawn))
  where
    undone : has j k.drawn ≡ false → has j (slabs_done k) ≡ false
    undone n = ⊎_elim (λ (t : has j (slabs_done k) ≡ true). absurd (true≢false (sym (f.done_once j t).0 ∙ n))) (λ (u : has j (slabs_done k) ≡ false). u) (cases_Bool (has j (slabs_done k)))

once_at_most : (x n : ℕ) → once_below x n ≤ 1
once_at_most x n = by_test (nat_lt x n)
  where
    by_test : (b : Bool) → (if b then 1 else 0) ≤ 1
    by_test true = omega arith
    by_test false = omega arith

each_done : (s : CoreState) → IsSound s → AllGone s → EachOnce (slab_count s) (all_done s)
each_done s k gone j =
    let a = times-flat_map slabs_done j s.workers in
    let b = sums_agree (λ (v : WorkerState). times j (slabs_done v)) (λ (v : WorkerState). times j v.drawn) s.workers same in
    let c = times-flat_map (λ (v : WorkerState). v.drawn) j s.workers in
    let past : slab_count s < s.next = (k.each 0 new_worker k.shaped.some).out ((k.each 0 new_worker k.shaped.some).gone (gone 0 new_worker k.shaped.some)).0 in
    let m : min s.next (slab_count s) ≡ slab_count s = omega arith in
    a ∙ b ∙ sym c ∙ k.drawn_once j ∙ ap (once_below j) m
  where
    same : All (λ (v : WorkerState). times j (slabs_done v) ≡ times j v.drawn) s.workers
    same i d lt =
        let c = times-flat_map (λ (v : WorkerState). v.drawn) j s.workers in
        let o = k.drawn_once j in
        let u = once_at_most j (min s.next (slab_count s)) in
        let l = get_or-le-sum_by (λ (v : WorkerState). times j v.drawn) s.workers i d lt in
        same_times s (get_or s.workers i d) j (k.each i d lt) (gone i d lt) (omega arith)

pub all_is_done : (s : CoreState) → IsSound s → AllGone s → IsDone s
all_is_done s k gone = record {
  each_once = each_done s k gone;
  right = All-weaker (IsSoundWorker s) (λ (v : WorkerState). All (λ (p : ℕ × List ℕ). p.1 ≡ reach_words s s.wanted p.0) v.done) (λ v f. f.done) s.workers k.each;
}
