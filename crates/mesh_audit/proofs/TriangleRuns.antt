-- What a run of triangles with the same nodes adds to what stood out before it.
use Rattle.std.proofs.Common.{◌≡◌, ◌≢◌, ◌⊎◌, inl, inr, ℕ, ◌+◌, ◌-◌, ◌<◌, ◌≤◌, List, [], ◌++◌, length, take, drop, get_or, Bool, true, false, ◌&&◌, eqb, ltb, cond, if◌then◌else◌, Option, refl, sym, ap, ◌∙◌, subst, arith}
use Rattle.std.proofs.Math.Seq.{take-add}
use Rattle.std.proofs.lemmas.List.{get_or_default}
use Rattle.std.proofs.lemmas.List.Elements.{All-take, All-drop}
use Rattle.std.proofs.lemmas.List.Sums.{sum_by-append}
use Rattle.std.specs.List.{count_by, All}
use Rattle.std.specs.List.Sorted.{IsNonDecreasingBy}
use Rattle.mesh_audit.specs.declared.triangles.Triangle.{Triangle}
use Rattle.mesh_files.specs.Verdicts.{same_direction}
use Rattle.mesh_audit.specs.Triangles.{key_of, key_at, triangle_of, alike, is_one_of_many, is_turned_pair, is_alone, is_pair, least_with, LeastTet, AreTriangles}
use Rattle.mesh_audit.proofs.Counts.{IsRun, part, part_length, part_at, run_count, count_in_run, count_all, count_none}
use Rattle.mesh_audit.proofs.Keys.{direction_key}
use Rattle.mesh_audit.proofs.Directions.{pair_judged, directed_as}
use Rattle.mesh_audit.proofs.LeastTets.{least_all, least_skip}

abbrev number : Triangle → ℕ
number t = key_of t.nodes

abbrev pub IsTriangleRun : List Triangle → ℕ → ℕ → Type 0
IsTriangleRun ts start end = IsRun number ts (key_at ts start) start end

at_any : (ts : List Triangle) (k : ℕ) (d : Triangle) → k < length ts → number (get_or ts k d) ≡ key_at ts k
at_any ts k d lt = ap number (get_or_default ts k d (triangle_of 0 []) lt)

pub run_is : (ts : List Triangle) (start end : ℕ) → IsNonDecreasingBy number ts → start < length ts → start < end → end ≤ length ts
    → ((k : ℕ) → k < start → key_at ts k < key_at ts start) → ((k : ℕ) → start ≤ k → k < end → key_at ts k ≡ key_at ts start) → (end < length ts → key_at ts end ≢ key_at ts start) → IsTriangleRun ts start end
run_is ts start end sorted lt some within before same ends = record {
  some = some;
  within = within;
  before = λ k d h. subst (λ n. n < key_at ts start) (sym (at_any ts k d (omega arith))) (before k h);
  inside = λ k d p q. at_any ts k d (omega arith) ∙ same k p q;
  behind = λ k d p q. subst (λ n. key_at ts start < n) (sym (at_any ts k d q)) (above k p q);
}
  where
    above : (k : ℕ) → end ≤ k → k < length ts → key_at ts start < key_at ts k
    above k p q =
        let ends_here : key_at ts end ≢ key_at ts start = ends (omega arith) in
        let rises : key_at ts start ≤ key_at ts end = sorted start end (triangle_of 0 []) (omega arith) (omega arith) in
        let more : key_at ts end ≤ key_at ts k = sorted end k (triangle_of 0 []) p q in
        stricter (key_at ts start) (key_at ts end) (key_at ts k) ends_here rises more
      where
        stricter : (a b c : ℕ) → b ≢ a → a ≤ b → b ≤ c → a < c
        stricter a b c ne p q = omega arith

pub next_fresh : (ts : List Triangle) (start end : ℕ) → IsTriangleRun ts start end → end < length ts → (k : ℕ) → k < end → key_at ts k < key_at ts end
next_fresh ts start end run lt k h =
    let top : key_at ts start < key_at ts end = run.behind end (triangle_of 0 []) (omega arith) lt in
    by_side (Rattle.std.proofs.lemmas.Bool.cases_lt k start) top
  where
    by_side : (k < start) ⊎ (start ≤ k) → key_at ts start < key_at ts end → key_at ts k < key_at ts end
    by_side (inl p) top = let b : key_at ts k < key_at ts start = run.before k (triangle_of 0 []) p in less (key_at ts k) (key_at ts start) (key_at ts end) b top
      where
        less : (a b c : ℕ) → a < b → b < c → a < c
        less a b c p q = omega arith
    by_side (inr p) top = let b : key_at ts k ≡ key_at ts start = run.inside k (triangle_of 0 []) p h in subst (λ n. n < key_at ts end) (sym b) top

-- the triangles up to the end of a run
taken : (ts : List Triangle) (start end : ℕ) → start ≤ end → take start ts ++ part ts start end ≡ take end ts
taken ts start end le = let e : start + (end - start) ≡ end = omega arith in sym (take-add start (end - start) ts) ∙ ap (λ n. take n ts) e

-- each triangle of a run has as many that are alike as the run is long
run_alike : (ts : List Triangle) (start end : ℕ) → IsTriangleRun ts start end → All (λ t. alike ts t ≡ length (part ts start end)) (part ts start end)
run_alike ts start end run k d lt =
    let le : start ≤ end = omega (arith, run.some) in
    let len : length (part ts start end) ≡ end - start = part_length ts start end le run.within in
    let below : k < end - start = omega arith in
    let from : start ≤ start + k = omega arith in
    let to : start + k < end = omega arith in
    let key : number (get_or (part ts start end) k d) ≡ key_at ts start = ap number (part_at ts start end k d below) ∙ run.inside (start + k) d from to in
    ap (λ v. count_by (λ x. eqb (number x) v) ts) key ∙ run_count number ts (key_at ts start) start end run ∙ sym len

all_at : (p : Triangle → Bool) (b c : Bool) (ys : List Triangle) → b ≡ c → All (λ t. p t ≡ b) ys → All (λ t. p t ≡ c) ys
all_at p b c ys e all = subst (λ v. All (λ t. p t ≡ v) ys) e all

-- a run whose triangles all pass, or all fail
least_after : (p : Triangle → Bool) (ts : List Triangle) (start end : ℕ) (b : Bool) (o : Option ℕ) → start ≤ end → All (λ t. p t ≡ b) (part ts start end) → LeastTet p (take start ts) o → LeastTet p (take end ts) (if b then least_with o (part ts start end) else o)
least_after p ts start end true o le all h = subst (λ zs. LeastTet p zs (least_with o (part ts start end))) (taken ts start end le) (least_all p (take start ts) (part ts start end) o h all)
least_after p ts start end false o le all h = subst (λ zs. LeastTet p zs o) (taken ts start end le) (least_skip p (take start ts) (part ts start end) o h all)

pub crowded_after : (ts : List Triangle) (start end : ℕ) (o : Option ℕ) → IsTriangleRun ts start end → LeastTet (is_one_of_many ts) (take start ts) o
    → LeastTet (is_one_of_many ts) (take end ts) (if ltb 2 (length (part ts start end)) then least_with o (part ts start end) else o)
crowded_after ts start end o run h =
    least_after (is_one_of_many ts) ts start end (ltb 2 (length (part ts start end))) o (omega (arith, run.some)) (λ k d lt. ap (ltb 2) (run_alike ts start end run k d lt)) h

-- the direction of a run's triangle is met in the run alone
run_directed : (ts : List Triangle) (start end : ℕ) → IsTriangleRun ts start end → All (λ t. directed_as ts t ≡ directed_as (part ts start end) t) (part ts start end)
run_directed ts start end run k d lt =
    let le : start ≤ end = omega (arith, run.some) in
    let len : length (part ts start end) ≡ end - start = part_length ts start end le run.within in
    let below : k < end - start = omega arith in
    let from : start ≤ start + k = omega arith in
    let to : start + k < end = omega arith in
    let key : number (get_or (part ts start end) k d) ≡ key_at ts start = ap number (part_at ts start end k d below) ∙ run.inside (start + k) d from to in
    count_in_run number ts (key_at ts start) start end (λ x. same_direction (get_or (part ts start end) k d).nodes x.nodes) run (λ x ne. only x ne key (same_direction (get_or (part ts start end) k d).nodes x.nodes) refl)
  where
    only : (x : Triangle) → number x ≢ key_at ts start → number (get_or (part ts start end) k d) ≡ key_at ts start → (b : Bool) → same_direction (get_or (part ts start end) k d).nodes x.nodes ≡ b → same_direction (get_or (part ts start end) k d).nodes x.nodes ≡ false
    only x ne key true e = absurd (ne (sym (direction_key (get_or (part ts start end) k d).nodes x.nodes e) ∙ key))
    only x ne key false e = e

pub turned_after : (ts : List Triangle) (start end : ℕ) (o : Option ℕ) → AreTriangles ts → IsTriangleRun ts start end → LeastTet (is_turned_pair ts) (take start ts) o
    → LeastTet (is_turned_pair ts) (take end ts) (if is_pair (part ts start end) then least_with o (part ts start end) else o)
turned_after ts start end o three run h =
    least_after (is_turned_pair ts) ts start end (is_pair (part ts start end)) o (omega (arith, run.some)) (λ k d lt. judged k d lt) h
  where
    threes : AreTriangles (part ts start end)
    threes = All-take (λ t. length t.nodes ≡ 3) (end - start) (drop start ts) (All-drop (λ t. length t.nodes ≡ 3) start ts three)

    judged : All (λ t. is_turned_pair ts t ≡ is_pair (part ts start end)) (part ts start end)
    judged k d lt =
        let n = run_alike ts start end run k d lt in
        let m = run_directed ts start end run k d lt in
        (λ i. eqb (n i) 2 && ltb 1 (m i)) ∙ pair_judged (part ts start end) threes k d lt

pub boundary_after : (ts : List Triangle) (start end b : ℕ) → IsTriangleRun ts start end → b ≡ count_by (is_alone ts) (take start ts)
    → (if eqb (length (part ts start end)) 1 then b + 1 else b) ≡ count_by (is_alone ts) (take end ts)
boundary_after ts start end b run e =
    by_test (eqb (length (part ts start end)) 1) refl
    ∙ sym (sum_by-append (λ t. cond (is_alone ts t) 1 0) (take start ts) (part ts start end))
    ∙ ap (count_by (is_alone ts)) (taken ts start end (omega (arith, run.some)))
  where
    all : (c : Bool) → eqb (length (part ts start end)) 1 ≡ c → All (λ t. is_alone ts t ≡ c) (part ts start end)
    all c f k d lt = ap (λ n. eqb n 1) (run_alike ts start end run k d lt) ∙ f

    by_test : (c : Bool) → eqb (length (part ts start end)) 1 ≡ c → (if c then b + 1 else b) ≡ count_by (is_alone ts) (take start ts) + count_by (is_alone ts) (part ts start end)
    by_test true f =
        let one : length (part ts start end) ≡ 1 = Rattle.std.proofs.lemmas.Bool.eqb-true _ 1 f in
        let n = count_all (is_alone ts) (part ts start end) (all true f) in
        λ i. e i + (sym (n ∙ one)) i
    by_test false f =
        let n = count_none (is_alone ts) (part ts start end) (all false f) in
        e ∙ (λ i. nothing (count_by (is_alone ts) (take start ts)) i) ∙ (λ i. count_by (is_alone ts) (take start ts) + sym n i)
      where
        nothing : (m : ℕ) → m ≡ m + 0
        nothing m = omega arith
