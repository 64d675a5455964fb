-- Extremes that are not in lowest terms, with one more angle.
use Rattle.std.proofs.Common.{◌≡◌, refl, ap, sym, ◌∙◌, Bool, true, false, List, [], ◌∷◌, ◌++◌, Some, None}
use Rattle.std.specs.Prelude.{if◌then◌else◌}
use Rattle.definitions.specs.declared.Extreme.{Extreme}
use Rattle.definitions.specs.declared.Extremes.{Extremes}
use Rattle.definitions.specs.Lists.{least_by, lesser}
use Rattle.definitions.specs.Angles.{is_less, extremes_of}
use Rattle.lattice_laws.proofs.Least.{least_by-push}
use Rattle.dihedral.specs.Fractions.{IsAngle, AreFractions, angle_in_lowest_terms, extremes_in_lowest_terms}
use Rattle.dihedral.proofs.Reductions.{is_less-lowest}
use Rattle.dihedral.proofs.ExtremesOfLists.{is_smaller, is_larger, extremes_are, extremes_from, no_extremes, with_extremes}

if-lowest : (t : Bool) (x a : Extreme) → (if t then angle_in_lowest_terms x else angle_in_lowest_terms a) ≡ angle_in_lowest_terms (if t then x else a)
if-lowest true x a = refl
if-lowest false x a = refl

pub smaller-lowest : (a x : Extreme) → IsAngle a → IsAngle x → lesser is_smaller (Some (angle_in_lowest_terms a)) (angle_in_lowest_terms x) ≡ angle_in_lowest_terms (lesser is_smaller (Some a) x)
smaller-lowest a x f g = ap (λ t. if t then angle_in_lowest_terms x else angle_in_lowest_terms a) (is_less-lowest a.cosine x.cosine f.den g.den) ∙ if-lowest (is_less a.cosine x.cosine) x a

pub larger-lowest : (a x : Extreme) → IsAngle a → IsAngle x → lesser is_larger (Some (angle_in_lowest_terms a)) (angle_in_lowest_terms x) ≡ angle_in_lowest_terms (lesser is_larger (Some a) x)
larger-lowest a x f g = ap (λ t. if t then angle_in_lowest_terms x else angle_in_lowest_terms a) (is_less-lowest x.cosine a.cosine g.den f.den) ∙ if-lowest (is_less x.cosine a.cosine) x a

pub one_more : (e n : Extremes) (x : Extreme) (xs : List Extreme) → AreFractions e → IsAngle x → n.least ≡ lesser is_smaller (Some e.least) x → n.greatest ≡ lesser is_larger (Some e.greatest) x → Some (extremes_in_lowest_terms e) ≡ extremes_of xs → Some (extremes_in_lowest_terms n) ≡ extremes_of (xs ++ angle_in_lowest_terms x ∷ [])
one_more e n x xs f g l m h =
    let are = extremes_are (extremes_in_lowest_terms e) xs h in
    extremes_from (extremes_in_lowest_terms n) (xs ++ angle_in_lowest_terms x ∷ [])
    (record {
      least = least_by-push is_smaller xs (angle_in_lowest_terms x) ∙ ap (λ o. Some (lesser is_smaller o (angle_in_lowest_terms x))) are.least ∙ ap Some (smaller-lowest e.least x f.least g) ∙ ap (λ t. Some (angle_in_lowest_terms t)) (sym l);
      greatest = least_by-push is_larger xs (angle_in_lowest_terms x) ∙ ap (λ o. Some (lesser is_larger o (angle_in_lowest_terms x))) are.greatest ∙ ap Some (larger-lowest e.greatest x f.greatest g) ∙ ap (λ t. Some (angle_in_lowest_terms t)) (sym m);
    })

one_alone : (x : Extreme) → Some (with_extremes x x) ≡ extremes_of ([] ++ x ∷ [])
unfolding extremes_of least_by
one_alone x = refl

pub first_one : (x : Extreme) (xs : List Extreme) → None ≡ extremes_of xs → Some (with_extremes (angle_in_lowest_terms x) (angle_in_lowest_terms x)) ≡ extremes_of (xs ++ angle_in_lowest_terms x ∷ [])
first_one x xs h = one_alone (angle_in_lowest_terms x) ∙ ap (λ r. extremes_of (r ++ angle_in_lowest_terms x ∷ [])) (sym (no_extremes xs h))
