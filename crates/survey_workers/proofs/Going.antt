-- A worker that goes on.
use Rattle.std.proofs.Common.{◌≡◌, ℕ, zero, suc, ◌+◌, ◌-◌, ◌*◌, ◌<◌, ◌≤◌, ◌==◌, List, [], ◌∷◌, ◌++◌, length, length-append, true, false, not, ◌&&◌, refl, sym, ap, ◌∙◌, subst, ⊎_elim, arith}
use Rattle.std.specs.List.{range_with_len, sum_by}
use Rattle.std.proofs.lemmas.Bool.Decides.{nat_tests}
use Rattle.std.proofs.lemmas.List.Elements.{All-head, All-tail}
use Rattle.std.proofs.lemmas.List.FromFn.{length-range_with_len}
use Rattle.std.proofs.Math.Nat.{mul-le-mul_left}
use Rattle.std.specs.Prelude.{All}
use Rattle.std.proofs.lemmas.List.{map-append}
use Rattle.std.proofs.lemmas.List.Concat.{flat_map-append}
use Rattle.std.proofs.lemmas.List.Sums.{sum_by-append, sum_by_push, sum_by-cons}
use Rattle.std.proofs.lemmas.Bool.{and_parts, both_ways, or_cases}
use Rattle.definitions.specs.declared.Dims.{Dims}
use Rattle.definitions.specs.Lattice.{layers, vertices}
use Rattle.definitions.specs.Layout.{layer_len, reach, reach_from, reach_to, slab_from, slab_to, slabs}
use Rattle.definitions.specs.States.{states}
use Rattle.list_words.specs.Words.{has, has_all, times}
use Rattle.list_words.proofs.Lists.{has_pushed}
use Rattle.slab_claims.specs.Seats.{ClaimsValue, SeatValue}
use Rattle.layer_cells.specs.Seats.{CellsValue, CellSeatValue, Subject}
use Rattle.vertex_numbers.specs.declared.LayerCount.{LayerCount}
use Rattle.vertex_numbers.specs.Counts.{count_of_layer}
use Rattle.slab_survey.specs.Workers.{WorkerValue}
use Rattle.slab_survey.specs.Layers.{counts_of_layers, slab_layers, unknown, vertices_in, MadeOnce, Surveys}
use Rattle.slab_survey.proofs.Sublists.{filter_part, part_sum}
use Rattle.slab_survey.proofs.Reaches.{slab_length}
use Rattle.slab_survey.proofs.Rooms.{all_room}
use Rattle.survey_workers.proofs.Slabs.{reach_within, slab_rises}
use Rattle.survey_workers.specs.Going.{layers_of, KnowsReaches, IsReady, IsGoing, IsEnded}

nothing_made : {L : Type 0} (d : Dims) (w : WorkerValue L) → w.cells.made ≡ [] → MadeOnce (layers d) w.cells
nothing_made d w none = record {
  once = λ x. let z : times x w.cells.made ≡ 0 = ap (times x) none in omega arith;
  known = λ x e. absurd (both_ways false refl (sym (ap (has x) none) ∙ e));
}

pub begins : {L : Type 0} (count : L → ℕ) (d : Dims) (t : ℕ) (a : ClaimsValue) (b : CellsValue) (v : WorkerValue L) → IsReady d a b v → IsGoing count d t a b v v v.claims.drawn
begins count d t a b v r = record {
  of = r.of;
  cells_of = r.cells_of;
  share = refl;
  knows = λ j e. absurd (both_ways false refl (sym (ap (has j) r.none_drawn) ∙ e));
  counts = r.no_counts ∙ sym (ap (λ (l : List ℕ). counts_of_layers b.subject (layers_of d t l)) r.none_drawn);
  few = let z : length v.cells.made ≡ 0 = ap length r.none_made in omega arith;
  once = nothing_made d v r.none_made;
  ledger = let z : vertices_in d v.cells.made ≡ 0 = ap (vertices_in d) r.none_made in omega arith;
  room = r.room;
}

-- a claim leaves all but the seat at the claims as it was
pub claims_on : {L : Type 0} (count : L → ℕ) (d : Dims) (t : ℕ) (a : ClaimsValue) (b : CellsValue) (v w u : WorkerValue L) (slabs : List ℕ) → IsGoing count d t a b v w slabs → u ≡ record w { claims = u.claims } → u.claims.of ≡ w.claims.of → u.claims.share ≡ w.claims.share
    → IsGoing count d t a b v u slabs
claims_on {L} count d t a b v w u slabs g rest of share =
    subst (λ (x : WorkerValue L). IsGoing count d t a b v x slabs) (sym rest) (record {
      of = of ∙ g.of;
      cells_of = g.cells_of;
      share = share ∙ g.share;
      knows = g.knows;
      counts = g.counts;
      few = g.few;
      once = g.once;
      ledger = g.ledger;
      room = g.room;
    })

knows_more : (d : Dims) (t n : ℕ) (slabs : List ℕ) (old new : CellSeatValue) (grown : List ℕ) → KnowsReaches d t slabs old.seen → Surveys (reach d t n) old new grown → KnowsReaches d t (slabs ++ n ∷ []) new.seen
knows_more d t n slabs old new grown knows s j e = ⊎_elim
    (λ (same : j ≡ n). subst (λ (k : ℕ). has_all (reach d t k) new.seen ≡ true) (sym same) s.known)
    (λ (was : has j slabs ≡ true). all_kept (reach d t j) (knows j was))
    (has_pushed j n slabs e)
  where
    all_kept : (hs : List ℕ) → has_all hs old.seen ≡ true → has_all hs new.seen ≡ true
    all_kept [] all = refl
    all_kept (h ∷ hs) all = let p = and_parts (has h old.seen) (has_all hs old.seen) all in λ i. s.kept h p.0 i && all_kept hs p.1 i

-- the layers that a survey makes are at most those of the reach
few_grown : (a n : ℕ) (old new : CellSeatValue) (grown : List ℕ) → Surveys (range_with_len a n) old new grown → length grown ≤ n
few_grown a n old new grown s =
    let p = part_sum (λ h. 1) grown (unknown old.seen (range_with_len a n)) s.news in
    let q = part_sum (λ h. 1) (unknown old.seen (range_with_len a n)) (range_with_len a n) (filter_part (λ h. not (has h old.seen)) (range_with_len a n)) in
    let l = length-range_with_len a n in
    let x = ones grown in
    let y = ones (range_with_len a n) in
    omega arith
  where
    ones : (xs : List ℕ) → sum_by (λ x. 1) xs ≡ length xs
    ones [] = refl
    ones (x ∷ xs) = let c = sum_by-cons (λ (x : ℕ). 1) x xs in let h = ones xs in omega arith

counts_more : (d : Dims) (t n : ℕ) (a : Subject) (slabs : List ℕ) (before after : List LayerCount) → before ≡ counts_of_layers a (layers_of d t slabs) → after ≡ before ++ counts_of_layers a (slab_layers d t n) → after ≡ counts_of_layers a (layers_of d t (slabs ++ n ∷ []))
counts_more d t n a slabs before after was is =
    let one : layers_of d t (n ∷ []) ≡ slab_layers d t n = append_nil (slab_layers d t n) in
    is ∙ ap (λ (l : List LayerCount). l ++ counts_of_layers a (slab_layers d t n)) was
    ∙ sym (map-append (count_of_layer a.field.dims (states a.field a.shares)) (layers_of d t slabs) (slab_layers d t n))
    ∙ ap (λ (l : List ℕ). counts_of_layers a (layers_of d t slabs ++ l)) (sym one)
    ∙ ap (counts_of_layers a) (sym (flat_map-append (slab_layers d t) slabs (n ∷ [])))
  where
    append_nil : (l : List ℕ) → l ++ [] ≡ l
    append_nil [] = refl
    append_nil (x ∷ xs) = ap (λ (l : List ℕ). x ∷ l) (append_nil xs)

pub goes_on : {L : Type 0} (count : L → ℕ) (d : Dims) (t n : ℕ) (a : ClaimsValue) (b : CellsValue) (v w u : WorkerValue L) (slabs grown : List ℕ) → IsGoing count d t a b v w slabs → u.claims ≡ w.claims → Surveys (reach d t n) w.cells u.cells grown
    → count u.ledger ≡ count w.ledger + vertices_in d grown → u.counts ≡ w.counts ++ counts_of_layers b.subject (slab_layers d t n) → u.room ≡ w.room → MadeOnce (layers d) u.cells
    → IsGoing count d t a b v u (slabs ++ n ∷ [])
goes_on count d t n a b v w u slabs grown g claims s counted counts room once = record {
  of = ap (λ (c : SeatValue). c.of) claims ∙ g.of;
  cells_of = s.of ∙ g.cells_of;
  share = ap (λ (c : SeatValue). c.share) claims ∙ g.share;
  knows = knows_more d t n slabs w.cells u.cells grown g.knows s;
  counts = counts_more d t n b.subject slabs w.counts u.counts g.counts counts;
  few =
      let long : length u.cells.made ≡ length w.cells.made + length grown = ap length s.made ∙ length-append w.cells.made grown in
      let f = few_grown (reach_from t n) (reach_to d t n - reach_from t n) w.cells u.cells grown s in
      let p = sum_by_push (λ j. reach_to d t j - reach_from t j) slabs n in
      let was = g.few in
      sums _ _ _ _ _ _ long was f p;
  once = once;
  ledger =
      let all : vertices_in d u.cells.made ≡ vertices_in d w.cells.made + vertices_in d grown = ap (vertices_in d) s.made ∙ sum_by-append (layer_len d) w.cells.made grown in
      adds _ _ _ _ _ _ counted g.ledger all;
  room = let r = g.room in omega arith;
}
  where
    sums : (now was grown before reach all : ℕ) → now ≡ was + grown → was ≤ before → grown ≤ reach → all ≡ before + reach → now ≤ all
    sums now was grown before reach all p q r s = omega arith

    adds : (after before first m n k : ℕ) → after ≡ before + n → before ≡ first + m → k ≡ m + n → after ≡ first + k
    adds after before first m n k p q r = omega arith

pub ends : {L : Type 0} (count : L → ℕ) (d : Dims) (t : ℕ) (a : ClaimsValue) (b : CellsValue) (v w : WorkerValue L) → IsGoing count d t a b v w w.claims.drawn → w.claims.done ≡ true → IsEnded d t a b w
ends count d t a b v w g done = record { of = g.of; cells_of = g.cells_of; done = done; knows = g.knows; counts = g.counts; few = g.few; once = g.once }

-- what is above all is above each
pub above_each : (n x : ℕ) (xs : List ℕ) → All (λ y. y < n) xs → has x xs ≡ true → x < n
above_each n x [] all e = absurd (both_ways false refl e)
above_each n x (y ∷ ys) all e = ⊎_elim
    (λ (s : (y == x) ≡ true). let same : y ≡ x = grind (arith, nat_tests) in let l = All-head (λ z. z < n) y ys all in omega arith)
    (λ (o : has x ys ≡ true). above_each n x ys (All-tail (λ z. z < n) y ys all) o)
    (or_cases (y == x) (has x ys) e)

-- the next number is above the last one
pub follows : (next n : ℕ) (slabs : List ℕ) → (0 < next → has (next - 1) slabs ≡ true) → All (λ y. y < n) slabs → next ≤ n
follows zero n slabs last above = omega arith
follows (suc k) n slabs last above = let b = above_each n (suc k - 1) slabs above (last (omega arith)) in omega arith

-- the room for the counts of one slab more
pub has_room : (d : Dims) (t next n room count : ℕ) → 1 ≤ t → n < slabs d t → next ≤ n → count ≤ slab_from t next → layers d ≤ room → count + length (slab_layers d t n) ≤ room
has_room d t next n room count some lt le few all =
    let l = slab_length d t n in
    let r = slab_rises d t n some lt in
    let m : 2 * t * next ≤ 2 * t * n = mul-le-mul_left (2 * t) le in
    fits _ _ _ _ _ _ _ l r few m all (to_layers d t n)
  where
    to_layers : (d : Dims) (t n : ℕ) → slab_to d t n ≤ layers d
    to_layers d t n = omega arith

    fits : (count len from to before layers room : ℕ) → len ≡ to - from → from ≤ to → count ≤ before → before ≤ from → layers ≤ room → to ≤ layers → count + len ≤ room
    fits count len from to before layers room a b c e f g = omega arith

pub short_more : (d : Dims) (t next n count after next' : ℕ) → 1 ≤ t → n < slabs d t → next ≤ n → count ≤ slab_from t next → after ≡ count + length (slab_layers d t n) → next' ≡ n + 1 → after ≤ slab_from t next'
short_more d t next n count after next' some lt le few is up =
    let l = slab_length d t n in
    let r = slab_rises d t n some lt in
    let m : 2 * t * next ≤ 2 * t * n = mul-le-mul_left (2 * t) le in
    let e : slab_from t next' ≡ slab_from t (n + 1) = ap (slab_from t) up in
    let top : slab_to d t n ≤ 2 * t * (n + 1) = omega arith in
    fits _ _ _ _ _ _ _ _ is l r few m e top
  where
    fits : (after count len from to before next top : ℕ) → after ≡ count + len → len ≡ to - from → from ≤ to → count ≤ before → before ≤ from → next ≡ top → to ≤ top → after ≤ next
    fits after count len from to before next top a b c e f g h = omega arith

-- the ledger has room for the layers that are not known
pub ledger_room : (d : Dims) (t n count first limit : ℕ) (w : CellSeatValue) → 1 ≤ t → n < slabs d t → MadeOnce (layers d) w → count ≡ first + vertices_in d w.made → first + length (vertices d) < limit → count + vertices_in d (unknown w.seen (reach d t n)) < limit
ledger_room d t n count first limit w some lt once is room =
    let a = all_room d (reach_from t n) (reach_to d t n - reach_from t n) w once (reach_within d t n some lt) in
    fits _ _ _ _ _ _ is a room
  where
    fits : (count first made unknown all limit : ℕ) → count ≡ first + made → made + unknown ≤ all → first + all < limit → count + unknown < limit
    fits count first made unknown all limit a b c = omega arith
