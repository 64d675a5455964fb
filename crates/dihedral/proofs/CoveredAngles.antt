-- Angles within the extremes so far: they stay so, and change nothing.
use Rattle.std.proofs.Common.{◌≡◌, ℕ, ◌*◌, ℤ, zero, suc, ◌≤◌, refl, ap, sym, ◌∙◌, arith, Bool, true, false, List, [], ◌∷◌, ◌++◌, Option, Some, None, pos, ◌*ℤ◌, ◌<ℤ◌}
use Rattle.std.specs.Prelude.{if◌then◌else◌, int_lt}
use Rattle.std.proofs.lemmas.Int.{ints}
use Rattle.definitions.specs.declared.Cosine.{Cosine}
use Rattle.definitions.specs.declared.Extreme.{Extreme}
use Rattle.definitions.specs.declared.Extremes.{Extremes}
use Rattle.definitions.specs.declared.Place.{Place}
use Rattle.definitions.specs.Angles.{edge_cosine, extremes_of, is_less}
use Rattle.definitions.specs.Lists.{lesser}
use Rattle.lattice_laws.proofs.Least.{least_by-push}
use Rattle.dihedral.specs.Fractions.{IsAngle, AreFractions, angle_in_lowest_terms, extremes_in_lowest_terms, in_lowest_terms}
use Rattle.dihedral.specs.Shapes.{Between, Covers, IsBetween, Widens}
use Rattle.dihedral.specs.TetAngles.{angle_of, edge_at, six_angles}
use Rattle.definitions.specs.Vectors.{det}
use Rattle.dihedral.proofs.AnglesAreFractions.{cosine_den}
use Rattle.dihedral.proofs.ExtremesOfLists.{is_smaller, is_larger, extremes_are, extremes_from}
use Rattle.dihedral.proofs.FractionOrder.{less_chain}
use Rattle.dihedral.proofs.Reductions.{IsFraction-lowest}
use Rattle.dihedral.proofs.RunningExtremes.{larger-lowest, smaller-lowest}
use Rattle.dihedral.proofs.SixAngles.{six_after}

-- ---- an angle that is within them

stay_some : (e : Extremes) (xs : List Extreme) (x : Extreme) → Some e ≡ extremes_of xs → IsBetween e x.cosine → Some e ≡ extremes_of (xs ++ x ∷ [])
stay_some e xs x h b =
    let are = extremes_are e xs h in
    extremes_from e (xs ++ x ∷ [])
    (record {
      least = least_by-push is_smaller xs x ∙ ap (λ o. Some (lesser is_smaller o x)) are.least ∙ ap (λ t. Some (if t then x else e.least)) b.below;
      greatest = least_by-push is_larger xs x ∙ ap (λ o. Some (lesser is_larger o x)) are.greatest ∙ ap (λ t. Some (if t then x else e.greatest)) b.above;
    })

pub stay : (o : Option Extremes) (xs : List Extreme) (x : Extreme) → o ≡ extremes_of xs → Between o x.cosine → o ≡ extremes_of (xs ++ x ∷ [])
stay None xs x h b = absurd b
stay (Some e) xs x h b = stay_some e xs x h b

pub stay_six : (o : Option Extremes) (tet : List Place) (t : ℕ) (nodes : List ℕ) (xs : List Extreme) → Covers o tet → o ≡ extremes_of xs → o ≡ extremes_of (xs ++ six_angles tet t nodes)
stay_six o tet t nodes xs b h =
    let at : ℕ → Extreme = λ k. angle_of tet t nodes (edge_at k) in
    let one = stay o xs (at 0) h (b 0 (omega arith)) in
    let two = stay o (xs ++ at 0 ∷ []) (at 1) one (b 1 (omega arith)) in
    let three = stay o ((xs ++ at 0 ∷ []) ++ at 1 ∷ []) (at 2) two (b 2 (omega arith)) in
    let four = stay o (((xs ++ at 0 ∷ []) ++ at 1 ∷ []) ++ at 2 ∷ []) (at 3) three (b 3 (omega arith)) in
    let five = stay o ((((xs ++ at 0 ∷ []) ++ at 1 ∷ []) ++ at 2 ∷ []) ++ at 3 ∷ []) (at 4) four (b 4 (omega arith)) in
    stay o (((((xs ++ at 0 ∷ []) ++ at 1 ∷ []) ++ at 2 ∷ []) ++ at 3 ∷ []) ++ at 4 ∷ []) (at 5) five (b 5 (omega arith)) ∙ ap extremes_of (six_after xs (at 0) (at 1) (at 2) (at 3) (at 4) (at 5))

-- ---- an angle more

-- no angle is less than itself
pub is_less-same : (a : Cosine) → is_less a a ≡ false
is_less-same a = same (a.sign *ℤ pos (a.num * a.den))
  where
    same : (z : ℤ) → int_lt z z ≡ false
    same z = grind (arith, ints)

no_less : (a x y : Cosine) → 1 ≤ a.den → 1 ≤ x.den → 1 ≤ y.den → is_less a x ≡ true → is_less a y ≡ false → is_less x y ≡ false
no_less a x y p q r h k = go (is_less x y) refl
  where
    go : (t : Bool) → is_less x y ≡ t → is_less x y ≡ false
    go true e = let f : true ≡ false = sym (less_chain a x y p q r h e) ∙ k in cc
    go false e = e

no_more : (a x y : Cosine) → 1 ≤ a.den → 1 ≤ x.den → 1 ≤ y.den → is_less x a ≡ true → is_less y a ≡ false → is_less y x ≡ false
no_more a x y p q r h k = go (is_less y x) refl
  where
    go : (t : Bool) → is_less y x ≡ t → is_less y x ≡ false
    go true e = let f : true ≡ false = sym (less_chain y x a r q p e h) ∙ k in cc
    go false e = e

-- the least with an angle more, and the greatest
module _ (a x : Extreme) (p : IsAngle a) (q : IsAngle x) where
  least_keeps : (y : Cosine) → 1 ≤ y.den → is_less a.cosine y ≡ false → is_less (lesser is_smaller (Some a) x).cosine y ≡ false
  least_keeps y r h = go (is_less a.cosine x.cosine) refl
    where
      go : (t : Bool) → is_less a.cosine x.cosine ≡ t → is_less (if t then x else a).cosine y ≡ false
      go true e = no_less a.cosine x.cosine y p.den q.den r e h
      go false e = h

  least_covers : is_less (lesser is_smaller (Some a) x).cosine x.cosine ≡ false
  least_covers = go (is_less a.cosine x.cosine) refl
    where
      go : (t : Bool) → is_less a.cosine x.cosine ≡ t → is_less (if t then x else a).cosine x.cosine ≡ false
      go true e = is_less-same x.cosine
      go false e = e

  greatest_keeps : (y : Cosine) → 1 ≤ y.den → is_less y a.cosine ≡ false → is_less y (lesser is_larger (Some a) x).cosine ≡ false
  greatest_keeps y r h = go (is_less x.cosine a.cosine) refl
    where
      go : (t : Bool) → is_less x.cosine a.cosine ≡ t → is_less y (if t then x else a).cosine ≡ false
      go true e = no_more a.cosine x.cosine y p.den q.den r e h
      go false e = h

  greatest_covers : is_less x.cosine (lesser is_larger (Some a) x).cosine ≡ false
  greatest_covers = go (is_less x.cosine a.cosine) refl
    where
      go : (t : Bool) → is_less x.cosine a.cosine ≡ t → is_less x.cosine (if t then x else a).cosine ≡ false
      go true e = is_less-same x.cosine
      go false e = e

module _ (e n : Extremes) (x : Extreme) (f : AreFractions e) (g : IsAngle x) (l : n.least ≡ lesser is_smaller (Some e.least) x) (m : n.greatest ≡ lesser is_larger (Some e.greatest) x) where
  least_is : angle_in_lowest_terms n.least ≡ lesser is_smaller (Some (angle_in_lowest_terms e.least)) (angle_in_lowest_terms x)
  least_is = ap (λ t. angle_in_lowest_terms t) l ∙ sym (smaller-lowest e.least x f.least g)

  greatest_is : angle_in_lowest_terms n.greatest ≡ lesser is_larger (Some (angle_in_lowest_terms e.greatest)) (angle_in_lowest_terms x)
  greatest_is = ap (λ t. angle_in_lowest_terms t) m ∙ sym (larger-lowest e.greatest x f.greatest g)

  pub more_widens : Widens (Some (extremes_in_lowest_terms e)) (Some (extremes_in_lowest_terms n))
  more_widens y r b = record {
    below = ap (λ t. is_less t.cosine y) least_is ∙ least_keeps (angle_in_lowest_terms e.least) (angle_in_lowest_terms x) (IsFraction-lowest e.least.cosine f.least) (IsFraction-lowest x.cosine g) y r b.below;
    above = ap (λ t. is_less y t.cosine) greatest_is ∙ greatest_keeps (angle_in_lowest_terms e.greatest) (angle_in_lowest_terms x) (IsFraction-lowest e.greatest.cosine f.greatest) (IsFraction-lowest x.cosine g) y r b.above;
  }

  pub more_covers : Between (Some (extremes_in_lowest_terms n)) (in_lowest_terms x.cosine)
  more_covers = record {
    below = ap (λ t. is_less t.cosine (in_lowest_terms x.cosine)) least_is ∙ least_covers (angle_in_lowest_terms e.least) (angle_in_lowest_terms x) (IsFraction-lowest e.least.cosine f.least) (IsFraction-lowest x.cosine g);
    above = ap (λ t. is_less (in_lowest_terms x.cosine) t.cosine) greatest_is ∙ greatest_covers (angle_in_lowest_terms e.greatest) (angle_in_lowest_terms x) (IsFraction-lowest e.greatest.cosine f.greatest) (IsFraction-lowest x.cosine g);
  }

-- ---- six angles, one after another
pub covers_six : (tet : List Place) → pos 0 <ℤ det tet → (a b c d e f : Option Extremes) → Between a (edge_cosine tet (edge_at 0)) → Widens a b → Between b (edge_cosine tet (edge_at 1)) → Widens b c → Between c (edge_cosine tet (edge_at 2)) → Widens c d
    → Between d (edge_cosine tet (edge_at 3)) → Widens d e → Between e (edge_cosine tet (edge_at 4)) → Widens e f → Between f (edge_cosine tet (edge_at 5)) → Covers f tet
covers_six tet p a b c d e f h0 w1 h1 w2 h2 w3 h3 w4 h4 w5 h5 zero lt =
    let y = edge_cosine tet (edge_at 0) in let r = cosine_den tet p 0 lt in w5 y r (w4 y r (w3 y r (w2 y r (w1 y r h0))))
covers_six tet p a b c d e f h0 w1 h1 w2 h2 w3 h3 w4 h4 w5 h5 (suc zero) lt =
    let y = edge_cosine tet (edge_at 1) in let r = cosine_den tet p 1 lt in w5 y r (w4 y r (w3 y r (w2 y r h1)))
covers_six tet p a b c d e f h0 w1 h1 w2 h2 w3 h3 w4 h4 w5 h5 (suc (suc zero)) lt =
    let y = edge_cosine tet (edge_at 2) in let r = cosine_den tet p 2 lt in w5 y r (w4 y r (w3 y r h2))
covers_six tet p a b c d e f h0 w1 h1 w2 h2 w3 h3 w4 h4 w5 h5 (suc (suc (suc zero))) lt =
    let y = edge_cosine tet (edge_at 3) in let r = cosine_den tet p 3 lt in w5 y r (w4 y r h3)
covers_six tet p a b c d e f h0 w1 h1 w2 h2 w3 h3 w4 h4 w5 h5 (suc (suc (suc (suc zero)))) lt =
    let y = edge_cosine tet (edge_at 4) in let r = cosine_den tet p 4 lt in w5 y r h4
covers_six tet p a b c d e f h0 w1 h1 w2 h2 w3 h3 w4 h4 w5 h5 (suc (suc (suc (suc (suc zero))))) lt = h5
covers_six tet p a b c d e f h0 w1 h1 w2 h2 w3 h3 w4 h4 w5 h5 (suc (suc (suc (suc (suc (suc k)))))) lt = absurd (omega arith)
