-- The extremes of two lists after one another, and of a list with one more angle.
use Rattle.std.proofs.Common.{◌≡◌, refl, ap, sym, ◌∙◌, Bool, List, [], ◌∷◌, ◌++◌, Option, Some, None}
use Rattle.std.specs.Prelude.{All, fold, option_and_then, option_map}
use Rattle.definitions.specs.declared.Extreme.{Extreme}
use Rattle.definitions.specs.declared.Extremes.{Extremes}
use Rattle.definitions.specs.Lists.{least_by, lesser}
use Rattle.definitions.specs.Angles.{is_less, least_angle, greatest_angle, extremes_of}
use Rattle.dihedral.specs.Fractions.{IsAngle, AreFractions}
use Rattle.dihedral.proofs.WeakOrders.{IsWeakOrder, least_by-append}
use Rattle.dihedral.proofs.FractionOrder.{less_chain, not_less_chain}

abbrev pub is_smaller : Extreme → Extreme → Bool
is_smaller a b = is_less b.cosine a.cosine

abbrev pub is_larger : Extreme → Extreme → Bool
is_larger a b = is_less a.cosine b.cosine

pub larger_is_weak : IsWeakOrder IsAngle is_larger
larger_is_weak = record { less = λ x y z p q r. less_chain x.cosine y.cosine z.cosine p.den q.den r.den; not_less = λ x y z p q r. not_less_chain x.cosine y.cosine z.cosine p.den q.den r.den }

pub smaller_is_weak : IsWeakOrder IsAngle is_smaller
smaller_is_weak =
    record {
      less = λ x y z p q r h k. less_chain z.cosine y.cosine x.cosine r.den q.den p.den k h;
      not_less = λ x y z p q r h k. not_less_chain z.cosine y.cosine x.cosine r.den q.den p.den k h;
    }

-- what the extremes of a list are
pub record AreExtremes (e : Extremes) (xs : List Extreme) : Type 0 where
  pub least : least_angle xs ≡ Some e.least
  pub greatest : greatest_angle xs ≡ Some e.greatest

abbrev both : Option Extreme → Option Extreme → Option Extremes
both l g = option_and_then (λ l. option_map (λ g. record { least = l; greatest = g }) g) l

pub extremes_are : (e : Extremes) (xs : List Extreme) → Some e ≡ extremes_of xs → AreExtremes e xs
unfolding extremes_of
extremes_are e xs h = go (least_angle xs) (greatest_angle xs) refl refl h
  where
    go : (l g : Option Extreme) → least_angle xs ≡ l → greatest_angle xs ≡ g → Some e ≡ both l g → AreExtremes e xs
    go None g p q h = cc
    go (Some l) None p q h = cc
    go (Some l) (Some g) p q h = record { least = p ∙ ap (λ o. option_map (λ (t : Extremes). t.least) o) (sym h); greatest = q ∙ ap (λ o. option_map (λ (t : Extremes). t.greatest) o) (sym h) }

pub extremes_from : (e : Extremes) (xs : List Extreme) → AreExtremes e xs → Some e ≡ extremes_of xs
unfolding extremes_of
extremes_from e xs a = sym (ap (λ l. both l (greatest_angle xs)) a.least ∙ ap (λ g. both (Some e.least) g) a.greatest)

always_some : (lt : Extreme → Extreme → Bool) (x : Extreme) (xs : List Extreme) → (l : Extreme) × (fold (λ a x. Some (lesser lt a x)) (Some x) xs ≡ Some l)
always_some lt x [] = (x, refl)
always_some lt x (y ∷ ys) = always_some lt (lesser lt (Some x) y) ys

-- a list with an angle has extremes
pub some_extremes : (x : Extreme) (xs : List Extreme) → (e : Extremes) × (Some e ≡ extremes_of (x ∷ xs))
unfolding least_by
some_extremes x xs =
    let l = always_some is_smaller x xs in
    let g = always_some is_larger x xs in
    (record { least = l.0; greatest = g.0 }, extremes_from _ (x ∷ xs) (record { least = l.1; greatest = g.1 }))

pub no_extremes : (xs : List Extreme) → None ≡ extremes_of xs → xs ≡ []
no_extremes [] h = refl
no_extremes (x ∷ xs) h = let some = some_extremes x xs in let e = some.1 in cc

pub extremes_of_none : None ≡ extremes_of []
unfolding extremes_of least_by
extremes_of_none = refl

append_nil : (xs : List Extreme) → xs ++ [] ≡ xs
append_nil [] = refl
append_nil (x ∷ xs) = ap (λ r. x ∷ r) (append_nil xs)

-- one of two lists that has no extremes adds nothing
pub none_before : (xs ys : List Extreme) (o : Option Extremes) → None ≡ extremes_of xs → o ≡ extremes_of ys → o ≡ extremes_of (xs ++ ys)
none_before xs ys o h k = k ∙ ap (λ r. extremes_of (r ++ ys)) (sym (no_extremes xs h))

pub none_after : (xs ys : List Extreme) (o : Option Extremes) → None ≡ extremes_of ys → o ≡ extremes_of xs → o ≡ extremes_of (xs ++ ys)
none_after xs ys o h k = k ∙ ap extremes_of (sym (append_nil xs) ∙ ap (λ r. xs ++ r) (sym (no_extremes ys h)))

abbrev pub with_extremes : Extreme → Extreme → Extremes
with_extremes l g = record { least = l; greatest = g }

-- of two lists with extremes, the first standing before the second
pub joined : (xs ys : List Extreme) (a b : Extremes) → AreFractions a → All IsAngle ys → Some a ≡ extremes_of xs → Some b ≡ extremes_of ys → (l g : Extreme) → l ≡ lesser is_smaller (Some a.least) b.least → g ≡ lesser is_larger (Some a.greatest) b.greatest → Some (with_extremes l g) ≡ extremes_of (xs ++ ys)
joined xs ys a b f all h k l g e d =
    let p = extremes_are a xs h in
    let q = extremes_are b ys k in
    extremes_from _ (xs ++ ys)
    (record {
      least = least_by-append IsAngle is_smaller smaller_is_weak xs ys a.least b.least f.least all p.least q.least ∙ ap Some (sym e);
      greatest = least_by-append IsAngle is_larger larger_is_weak xs ys a.greatest b.greatest f.greatest all p.greatest q.greatest ∙ ap Some (sym d);
    })
