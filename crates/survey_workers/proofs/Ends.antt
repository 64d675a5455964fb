-- What holds once each slab is drawn.
use Rattle.std.proofs.Common.{◌≡◌, ℕ, ◌+◌, ◌-◌, ◌*◌, ◌/◌, ◌<◌, ◌≤◌, List, [], length, true, ap, ◌∙◌, subst, arith}
use Rattle.definitions.specs.declared.Dims.{Dims}
use Rattle.definitions.specs.Lattice.{layers}
use Rattle.definitions.specs.Layout.{reach, reach_from, reach_to, slabs}
use Rattle.list_words.specs.Words.{has, EachOnce}
use Rattle.list_words.proofs.Lists.{has_among, each_stands}
use Rattle.list_words.proofs.Sums.{sum_once}
use Rattle.slab_core.specs.States.{new_core}
use Rattle.slab_core.proofs.Consequences.{all_reaches}
use Rattle.slab_claims.specs.Seats.{DrawnValue}
use Rattle.survey_workers.specs.Going.{reached, KnowsReaches}
use Rattle.survey_workers.proofs.Slabs.{reach_of, slab_of}

pub all_known : (d : Dims) (t : ℕ) (drawn seen : List ℕ) → 1 ≤ t → EachOnce (slabs d t) drawn → KnowsReaches d t drawn seen → (h : ℕ) → h < layers d → has h seen ≡ true
all_known d t drawn seen some once knows h below =
    has_among h (reach d t (h / (2 * t))) seen (knows (h / (2 * t)) (each_stands (slabs d t) (h / (2 * t)) drawn once (slab_of d t h some below).0)) (reach_of d t h some below)

pub few_made : (d : Dims) (t : ℕ) (drawn made : List ℕ) → 1 ≤ t → EachOnce (slabs d t) drawn → length made ≤ reached d t drawn → length made ≤ layers d + 4 * (slabs d t - 1)
few_made d t drawn made some once few =
    let s = sum_once (λ j. reach_to d t j - reach_from t j) (slabs d t) drawn once in
    let b = all_reaches (new_core d t [] 0) (slabs d t) some in
    chain _ _ _ _ few s b
  where
    chain : (a b c e : ℕ) → a ≤ b → b ≡ c → c ≤ e → a ≤ e
    chain a b c e p q r = omega arith

pub once_of : (d e : Dims) (t n : ℕ) (drawn : List ℕ) (r : DrawnValue) → EachOnce r.slabs r.list → r ≡ record { slabs = n; list = drawn } → n ≡ slabs d t → d ≡ e → EachOnce (slabs e t) drawn
once_of d e t n drawn r once is count same = subst (λ (p : ℕ × List ℕ). EachOnce p.0 p.1) (λ i. ((ap (λ (v : DrawnValue). v.slabs) is ∙ count ∙ ap (λ (c : Dims). slabs c t) same) i, ap (λ (v : DrawnValue). v.list) is i)) once
