-- The vertices of the layers that are made, and of those that are not known, are at most all.
use Rattle.std.proofs.Common.{◌≡◌, ℕ, zero, suc, ◌+◌, ◌≤◌, ◌==◌, ne_eqb, List, [], ◌∷◌, ◌++◌, length, Bool, true, false, not, if◌then◌else◌, refl, sym, ap, ◌∙◌, ⊎_elim, arith}
use Rattle.std.specs.List.{range_with_len}
use Rattle.std.proofs.lemmas.Bool.Decides.{nat_tests}
use Rattle.std.proofs.lemmas.List.Sums.{sum_by-append}
use Rattle.std.proofs.lemmas.Bool.{both_ways, false_from_ne_true, cases_Bool}
use Rattle.vertex_numbers.proofs.LayerStarts.{no_layers}
use Rattle.definitions.specs.declared.Dims.{Dims}
use Rattle.definitions.specs.Lattice.{layers, vertices}
use Rattle.definitions.specs.Layout.{layer_len, layer_start}
use Rattle.list_words.specs.Words.{has, once_below, times}
use Rattle.list_words.proofs.Tests.{when_false}
use Rattle.list_words.proofs.Lists.{times_append, times_cons, times_has}
use Rattle.list_words.proofs.Sums.{sum_below}
use Rattle.slab_core.proofs.Layers.{all_start, next_start}
use Rattle.layer_cells.specs.Seats.{CellSeatValue}
use Rattle.slab_survey.specs.Layers.{unknown, vertices_in, MadeOnce}
use Rattle.slab_survey.proofs.Numbers.{sum_at_most, times_range}
use Rattle.slab_survey.proofs.Sublists.{filter_part, part_sum}

starts_sum : (d : Dims) (h : ℕ) → h ≤ layers d → layer_start d 0 ≡ 0 → sum_below (layer_len d) h ≡ layer_start d h
starts_sum d zero le none = sym none
starts_sum d (suc h) le none =
    let i = starts_sum d h (omega arith) none in
    let n = next_start d h (omega arith) in
    let e : layer_start d (suc h) ≡ layer_start d (h + 1) = ap (layer_start d) (let f : suc h ≡ h + 1 = omega arith in f) in
    omega arith

-- the layers together have all vertices
pub all_layers : (d : Dims) → sum_below (layer_len d) (layers d) ≡ length (vertices d)
all_layers d = starts_sum d (layers d) (omega arith) (no_layers d) ∙ all_start d

-- a known layer is not among the unknown ones
not_unknown : (x : ℕ) (seen hs : List ℕ) → has x seen ≡ true → times x (unknown seen hs) ≡ 0
not_unknown x seen [] e = refl
not_unknown x seen (y ∷ ys) e = by_test (has y seen) refl (not_unknown x seen ys e)
  where
    by_test : (b : Bool) → has y seen ≡ b → times x (unknown seen ys) ≡ 0 → times x (if not b then y ∷ unknown seen ys else unknown seen ys) ≡ 0
    by_test true is h = h
    by_test false is h =
        let c = times_cons x y (unknown seen ys) in
        let z = when_false (y == x) 1 0 (ne_eqb y x (λ (s : y ≡ x). both_ways (has x seen) (ap (λ (k : ℕ). has k seen) (sym s) ∙ is) e)) in
        omega arith

-- the layers that a seat made and those of a range that it doesn't know have at most all vertices
pub all_room : (d : Dims) (a n : ℕ) (w : CellSeatValue) → MadeOnce (layers d) w → a + n ≤ layers d → vertices_in d w.made + vertices_in d (unknown w.seen (range_with_len a n)) ≤ length (vertices d)
all_room d a n w o within =
    let s = sum_by-append (layer_len d) w.made (unknown w.seen (range_with_len a n)) in
    let m = sum_at_most (layer_len d) (layers d) (w.made ++ unknown w.seen (range_with_len a n)) once in
    let e = all_layers d in
    omega arith
  where
    wider : (x m k : ℕ) → m ≤ k → once_below x m ≤ once_below x k
    wider x m k le = grind (arith, nat_tests)

    once : (x : ℕ) → times x (w.made ++ unknown w.seen (range_with_len a n)) ≤ once_below x (layers d)
    once x =
        let s = times_append x w.made (unknown w.seen (range_with_len a n)) in
        ⊎_elim
        (λ (k : has x w.seen ≡ true). let z = not_unknown x w.seen (range_with_len a n) k in let b = o.once x in omega arith)
        (λ (u : has x w.seen ≡ false).
        let z = times_has x w.made (false_from_ne_true (has x w.made) (λ m. both_ways (has x w.seen) u (o.known x m))) in
        let p : times x (unknown w.seen (range_with_len a n)) ≤ times x (range_with_len a n) = part_sum (λ (y : ℕ). if y == x then 1 else 0) (unknown w.seen (range_with_len a n)) (range_with_len a n) (filter_part (λ h. not (has h w.seen)) (range_with_len a n)) in
        let r = (times_range x a n).0 in
        let i = wider x (a + n) (layers d) within in
        omega arith)
        (cases_Bool (has x w.seen))
