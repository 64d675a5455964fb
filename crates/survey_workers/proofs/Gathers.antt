-- What workers leave together, as one worker more is taken in.
use Rattle.std.proofs.Common.{◌≡◌, ℕ, zero, suc, ◌+◌, ◌-◌, ◌*◌, ◌<◌, ◌≤◌, min, List, [], ◌∷◌, ◌++◌, All, length, length-append, true, ◌||◌, ◌&&◌, refl, sym, ap, ◌∙◌, subst, ⊎_elim, arith}
use Rattle.std.specs.List.{range_with_len}
use Rattle.std.proofs.lemmas.List.{get_or-map, length-map}
use Rattle.std.proofs.lemmas.List.Elements.{All-append, All-cons, All-nil}
use Rattle.std.proofs.lemmas.List.Sums.{sum_by-append}
use Rattle.std.proofs.lemmas.Bool.{and_parts, or_cases, or_left, or_right}
use Rattle.definitions.specs.declared.Dims.{Dims}
use Rattle.definitions.specs.Lattice.{layers}
use Rattle.definitions.specs.Layout.{reach, reach_from, reach_to, slab_from, slab_to}
use Rattle.definitions.specs.States.{states}
use Rattle.list_words.specs.Words.{has, has_all}
use Rattle.list_words.proofs.Lists.{has_append}
use Rattle.slab_claims.specs.Seats.{ClaimsValue, SeatValue}
use Rattle.layer_cells.specs.Seats.{CellsValue, CellSeatValue, Subject}
use Rattle.layer_cells.specs.Answers.{seat_joined}
use Rattle.vertex_numbers.specs.declared.LayerCount.{LayerCount}
use Rattle.vertex_numbers.specs.Counts.{count_of_layer}
use Rattle.slab_survey.specs.Workers.{WorkerValue}
use Rattle.slab_survey.specs.Layers.{counts_of_layers, slab_layers}
use Rattle.survey_workers.specs.declared.gathering.Gathered.{Gathered}
use Rattle.survey_workers.specs.Going.{layers_of, reached, KnowsReaches, IsEnded}
use Rattle.survey_workers.specs.Tables.{with_counts, AreRight, IsGathered}
use Rattle.survey_workers.proofs.Tables.{fills, filled_length, gets_right}

range_below : (a n b : ℕ) → (0 < n → a + n ≤ b) → All (λ h. h < b) (range_with_len a n)
range_below a zero b le = All-nil (λ h. h < b)
range_below a (suc n) b le = All-cons (λ h. h < b) a (range_with_len (a + 1) n) (let l = le (omega arith) in omega arith) (range_below (a + 1) n b (λ some. let l = le (omega arith) in omega arith))

layers_below : (d : Dims) (t : ℕ) (drawn : List ℕ) → All (λ h. h < layers d) (layers_of d t drawn)
layers_below d t [] = All-nil (λ h. h < layers d)
layers_below d t (j ∷ js) = All-append (λ h. h < layers d) (slab_layers d t j) (layers_of d t js) (range_below (slab_from t j) (slab_to d t j - slab_from t j) (layers d) (λ some. under (slab_from t j) (2 * t * (j + 1)) (layers d) some)) (layers_below d t js)
  where
    under : (f p l : ℕ) → 0 < min p l - f → f + (min p l - f) ≤ l
    under f p l some = omega arith

-- the counts of these are of layers
pub counts_below : (a : Subject) (d : Dims) (t : ℕ) (drawn : List ℕ) (table cs : List LayerCount) → length table ≡ layers d → cs ≡ counts_of_layers a (layers_of d t drawn) → All (λ c. c.h < length table) cs
counts_below a d t drawn table cs len is = subst (All (λ (c : LayerCount). c.h < length table)) (sym is) at
  where
    at : All (λ (c : LayerCount). c.h < length table) (counts_of_layers a (layers_of d t drawn))
    at k e lt =
        let f = count_of_layer a.field.dims (states a.field a.shares) in
        let within : k < length (layers_of d t drawn) = let l = length-map (layers_of d t drawn) f in omega arith in
        let g = get_or-map f (layers_of d t drawn) k 0 e within in
        let b = layers_below d t drawn k 0 within in
        subst (λ (c : LayerCount). c.h < length table) (sym g) (omega arith)

knows_both : (d : Dims) (t : ℕ) (x y s u : List ℕ) → KnowsReaches d t x s → KnowsReaches d t y u → KnowsReaches d t (x ++ y) (s ++ u)
knows_both d t x y s u p q j e = ⊎_elim
    (λ (l : has j x ≡ true). left (reach d t j) (p j l))
    (λ (r : has j y ≡ true). right (reach d t j) (q j r))
    (or_cases (has j x) (has j y) (sym (has_append j x y) ∙ e))
  where
    left : (hs : List ℕ) → has_all hs s ≡ true → has_all hs (s ++ u) ≡ true
    left [] all = refl
    left (h ∷ hs) all = let a = and_parts (has h s) (has_all hs s) all in λ i. (has_append h s u ∙ or_left (has h s) (has h u) a.0) i && left hs a.1 i

    right : (hs : List ℕ) → has_all hs u ≡ true → has_all hs (s ++ u) ≡ true
    right [] all = refl
    right (h ∷ hs) all = let a = and_parts (has h u) (has_all hs u) all in λ i. (has_append h s u ∙ or_right (has h s) (has h u) a.0) i && right hs a.1 i

pub takes_in : {L : Type 0} (t : ℕ) (a : ClaimsValue) (b : CellsValue) (all new : Gathered) (w : WorkerValue L) → IsGathered t a b all → IsEnded b.subject.field.dims t a b w
    → new.claims ≡ record all.claims { share = all.claims.share + w.claims.share; drawn = all.claims.drawn ++ w.claims.drawn; done = all.claims.done || w.claims.done }
    → new.cells ≡ seat_joined all.cells w.cells → new.made ≡ all.made + length w.cells.made → new.table.items ≡ with_counts all.table.items w.counts
    → IsGathered t a b new
takes_in t a b all new w g k claims cells made table =
    let d = b.subject.field.dims in
    let drawn : new.claims.drawn ≡ all.claims.drawn ++ w.claims.drawn = ap (λ (s : SeatValue). s.drawn) claims in
    let seen : new.cells.seen ≡ all.cells.seen ++ w.cells.seen = ap (λ (s : CellSeatValue). s.seen) cells in
    let layers_made : length new.cells.made ≡ length all.cells.made + length w.cells.made = ap (λ (s : CellSeatValue). length s.made) cells ∙ length-append all.cells.made w.cells.made in
    record {
      of = ap (λ (s : SeatValue). s.of) claims ∙ g.of;
      cells_of = ap (λ (s : CellSeatValue). s.of) cells ∙ g.cells_of;
      done = ap (λ (s : SeatValue). s.done) claims ∙ or_left all.claims.done w.claims.done g.done;
      knows = subst (λ (p : List ℕ × List ℕ). KnowsReaches b.subject.field.dims t p.0 p.1) (λ i. (sym drawn i, sym seen i)) (knows_both b.subject.field.dims t all.claims.drawn w.claims.drawn all.cells.seen w.cells.seen g.knows k.knows);
      few =
          let r : reached b.subject.field.dims t new.claims.drawn ≡ reached b.subject.field.dims t all.claims.drawn + reached b.subject.field.dims t w.claims.drawn =
          ap (reached b.subject.field.dims t) drawn ∙ sum_by-append (λ j. reach_to b.subject.field.dims t j - reach_from t j) all.claims.drawn w.claims.drawn
          in
          sums _ _ _ _ _ _ layers_made g.few k.few r;
      made = let m = g.made in adds _ _ _ _ _ made m layers_made;
      room = ap length table ∙ filled_length all.table.items w.counts ∙ g.room;
      counts =
          subst (λ (p : List LayerCount × List ℕ). AreRight b.subject p.0 (layers_of b.subject.field.dims t p.1)) (λ i. (sym (table ∙ ap (with_counts all.table.items) k.counts) i, sym drawn i))
          (fills b.subject b.subject.field.dims t all.claims.drawn w.claims.drawn all.table.items g.counts);
    }
  where
    sums : (now m n x y r : ℕ) → now ≡ m + n → m ≤ x → n ≤ y → r ≡ x + y → now ≤ r
    sums now m n x y r p q s u = omega arith

    adds : (now was n len new : ℕ) → now ≡ was + n → was ≡ len → new ≡ len + n → now ≡ new
    adds now was n len new p q r = omega arith

-- the first worker alone
pub begins_with : {L : Type 0} (t : ℕ) (a : ClaimsValue) (b : CellsValue) (all : Gathered) (table : List LayerCount) (w : WorkerValue L) → IsEnded b.subject.field.dims t a b w
    → all.claims ≡ w.claims → all.cells ≡ w.cells → all.made ≡ length w.cells.made → all.table.items ≡ with_counts table w.counts → length table ≡ layers b.subject.field.dims
    → IsGathered t a b all
begins_with t a b all table w k claims cells made items len = record {
  of = ap (λ (s : SeatValue). s.of) claims ∙ k.of;
  cells_of = ap (λ (s : CellSeatValue). s.of) cells ∙ k.cells_of;
  done = ap (λ (s : SeatValue). s.done) claims ∙ k.done;
  knows = subst (λ (p : List ℕ × List ℕ). KnowsReaches b.subject.field.dims t p.0 p.1) (λ i. ((sym claims i).drawn, (sym cells i).seen)) k.knows;
  few = subst (λ (p : List ℕ × List ℕ). length p.0 ≤ reached b.subject.field.dims t p.1) (λ i. ((sym cells i).made, (sym claims i).drawn)) k.few;
  made = made ∙ ap (λ (s : CellSeatValue). length s.made) (sym cells);
  room = ap length items ∙ filled_length table w.counts ∙ len;
  counts =
      subst (λ (p : List LayerCount × List ℕ). AreRight b.subject p.0 (layers_of b.subject.field.dims t p.1)) (λ i. (sym (items ∙ ap (with_counts table) k.counts) i, (sym claims i).drawn))
      (gets_right b.subject (layers_of b.subject.field.dims t w.claims.drawn) table);
}
