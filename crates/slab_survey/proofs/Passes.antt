-- A survey that goes on to one layer more.
use Rattle.std.proofs.Common.{◌≡◌, ◌≢◌, ℕ, ◌+◌, ◌-◌, ◌<◌, ◌≤◌, List, [], ◌∷◌, ◌++◌, append_assoc, true, false, not, ◌&&◌, refl, sym, ap, ◌∙◌, subst, ⊎_elim, arith}
use Rattle.std.specs.Prelude.{filter}
use Rattle.std.specs.List.{range_with_len}
use Rattle.std.proofs.lemmas.Bool.Decides.{nat_tests}
use Rattle.std.proofs.lemmas.List.Sums.{sum_by_push}
use Rattle.std.proofs.lemmas.Bool.{and_parts, both_ways, false_from_ne_true, cases_eq}
use Rattle.definitions.specs.declared.Dims.{Dims}
use Rattle.definitions.specs.Layout.{layer_len}
use Rattle.lattice_laws.specs.Ascending.{IsPart}
use Rattle.list_words.specs.Words.{has, has_all, joined, once_below, times}
use Rattle.list_words.proofs.Lists.{has_kept, has_new, has_pushed, times_new, times_other}
use Rattle.layer_cells.specs.Seats.{CellSeatValue}
use Rattle.slab_survey.specs.Layers.{unknown, vertices_in, MadeOnce, Surveys}
use Rattle.slab_survey.proofs.Numbers.{range_split, range_up}
use Rattle.slab_survey.proofs.Sublists.{part_filter_more, part_filter_push, part_sum}

all_known : (hs : List ℕ) (h : ℕ) (seen : List ℕ) → has_all hs seen ≡ true → has_all (hs ++ h ∷ []) (joined h seen) ≡ true
all_known [] h seen all = λ i. has_new h seen i && true
all_known (k ∷ ks) h seen all =
    let a = and_parts (has k seen) (has_all ks seen) all in
    λ i. has_kept k h seen a.0 i && all_known ks h seen a.1 i

pub begins : (v : CellSeatValue) → Surveys [] v v []
begins v = record { of = refl; known = refl; kept = λ h e. e; made = sym (append_nil v.made); news = tt }
  where
    append_nil : (l : List ℕ) → l ++ [] ≡ l
    append_nil [] = refl
    append_nil (x ∷ xs) = ap (λ (l : List ℕ). x ∷ l) (append_nil xs)

pub knows_one : (hs : List ℕ) (h : ℕ) (v w x : CellSeatValue) (grown : List ℕ) → Surveys hs v w grown → x.of ≡ w.of → x.seen ≡ joined h w.seen → x.made ≡ w.made → Surveys (hs ++ h ∷ []) v x grown
knows_one hs h v w x grown s of seen made = record {
  of = of ∙ s.of;
  known = ap (has_all (hs ++ h ∷ [])) seen ∙ all_known hs h w.seen s.known;
  kept = λ k e. ap (has k) seen ∙ has_kept k h w.seen (s.kept k e);
  made = made ∙ s.made;
  news = part_filter_more (λ k. not (has k v.seen)) grown hs (h ∷ []) s.news;
}

-- what is not known now was not known before
pub was_unknown : (hs : List ℕ) (h : ℕ) (v w : CellSeatValue) (grown : List ℕ) → Surveys hs v w grown → has h w.seen ≡ false → has h v.seen ≡ false
was_unknown hs h v w grown s e = false_from_ne_true (has h v.seen) (λ k. both_ways (has h w.seen) e (s.kept h k))

pub makes_one : (hs : List ℕ) (h : ℕ) (v w x : CellSeatValue) (grown : List ℕ) → Surveys hs v w grown → x.of ≡ w.of → x.seen ≡ joined h w.seen → x.made ≡ w.made ++ h ∷ [] → has h w.seen ≡ false → Surveys (hs ++ h ∷ []) v x (grown ++ h ∷ [])
makes_one hs h v w x grown s of seen made new = record {
  of = of ∙ s.of;
  known = ap (has_all (hs ++ h ∷ [])) seen ∙ all_known hs h w.seen s.known;
  kept = λ k e. ap (has k) seen ∙ has_kept k h w.seen (s.kept k e);
  made = made ∙ ap (λ (l : List ℕ). l ++ h ∷ []) s.made ∙ append_assoc v.made grown (h ∷ []);
  news = part_filter_push (λ k. not (has k v.seen)) grown hs h (ap not (was_unknown hs h v w grown s new)) s.news;
}

-- the ledger has room for a layer that is not known
pub has_room : (d : Dims) (from h to count first limit : ℕ) (v w : CellSeatValue) (grown : List ℕ) → from ≤ h → h < to → Surveys (range_with_len from (h - from)) v w grown → has h w.seen ≡ false
    → count ≡ first + vertices_in d grown → first + vertices_in d (unknown v.seen (range_with_len from (to - from))) < limit → count + layer_len d h < limit
has_room d from h to count first limit v w grown le lt s new is room =
    let old = was_unknown (range_with_len from (h - from)) h v w grown s new in
    let up : IsPart (grown ++ h ∷ []) (filter (λ k. not (has k v.seen)) (range_with_len from (h - from) ++ h ∷ [])) = part_filter_push (λ k. not (has k v.seen)) grown (range_with_len from (h - from)) h (ap not old) s.news in
    let all : IsPart (grown ++ h ∷ []) (filter (λ k. not (has k v.seen)) (range_with_len from (h + 1 - from) ++ range_with_len (h + 1) (to - (h + 1)))) =
    part_filter_more (λ k. not (has k v.seen)) (grown ++ h ∷ []) (range_with_len from (h + 1 - from)) (range_with_len (h + 1) (to - (h + 1)))
    (subst (λ (l : List ℕ). IsPart (grown ++ h ∷ []) (filter (λ k. not (has k v.seen)) l)) (sym (range_up from h le)) up)
    in
    let whole : IsPart (grown ++ h ∷ []) (unknown v.seen (range_with_len from (to - from))) =
    subst (λ (l : List ℕ). IsPart (grown ++ h ∷ []) (filter (λ k. not (has k v.seen)) l)) (sym (range_split from (h + 1) to (omega arith) (omega arith))) all
    in
    let sum = part_sum (layer_len d) (grown ++ h ∷ []) (unknown v.seen (range_with_len from (to - from))) whole in
    let push = sum_by_push (layer_len d) grown h in
    fits count first (vertices_in d grown) (layer_len d h) _ _ limit is push sum room
  where
    fits : (count first m n s t limit : ℕ) → count ≡ first + m → s ≡ m + n → s ≤ t → first + t < limit → count + n < limit
    fits count first m n s t limit a b c e = omega arith

pub counts_one : (d : Dims) (h count first now : ℕ) (grown : List ℕ) → now ≡ count + layer_len d h → count ≡ first + vertices_in d grown → now ≡ first + vertices_in d (grown ++ h ∷ [])
counts_one d h count first now grown a b = adds _ _ _ _ _ _ a b (sum_by_push (layer_len d) grown h)
  where
    adds : (now count n first m s : ℕ) → now ≡ count + n → count ≡ first + m → s ≡ m + n → now ≡ first + s
    adds now count n first m s a b c = omega arith

-- the layers that are made stay different
pub once_known : (layers h : ℕ) (w x : CellSeatValue) → MadeOnce layers w → x.seen ≡ joined h w.seen → x.made ≡ w.made → MadeOnce layers x
once_known layers h w x o seen made = record {
  once = λ k. subst (λ (l : List ℕ). times k l ≤ once_below k layers) (sym made) (o.once k);
  known = λ k e. ap (has k) seen ∙ has_kept k h w.seen (o.known k (ap (has k) (sym made) ∙ e));
}

pub once_made : (layers h : ℕ) (w x : CellSeatValue) → h < layers → MadeOnce layers w → x.seen ≡ joined h w.seen → x.made ≡ w.made ++ h ∷ [] → has h w.seen ≡ false → MadeOnce layers x
once_made layers h w x below o seen made new = record {
  once = λ k. subst (λ (l : List ℕ). times k l ≤ once_below k layers) (sym made) (at k);
  known = λ k e. ap (has k) seen ∙ ⊎_elim
      (λ (s : k ≡ h). subst (λ (j : ℕ). has j (joined h w.seen) ≡ true) (sym s) (has_new h w.seen))
      (λ (old : has k w.made ≡ true). has_kept k h w.seen (o.known k old))
      (has_pushed k h w.made (ap (has k) (sym made) ∙ e));
}
  where
    fresh : has h w.made ≡ false
    fresh = false_from_ne_true (has h w.made) (λ k. both_ways (has h w.seen) new (o.known h k))

    at : (k : ℕ) → times k (w.made ++ h ∷ []) ≤ once_below k layers
    at k = ⊎_elim
        (λ (s : k ≡ h).
        let n = times_new h w.made fresh in
        let p : times k (w.made ++ h ∷ []) ≡ times h (w.made ++ h ∷ []) = ap (λ (j : ℕ). times j (w.made ++ h ∷ [])) s in
        let one : once_below k layers ≡ 1 = (let lt : k < layers = omega arith in grind (arith, nat_tests)) in
        omega arith)
        (λ (n : k ≢ h). let t = times_other k h w.made n in let b = o.once k in omega arith)
        (cases_eq k h)
