-- The extremes of a mesh bound all of its angles.
use Rattle.std.proofs.Common.{◌≡◌, ℕ, ◌+◌, ◌*◌, refl, sym, ◌∙◌, ap, arith, false, List, [], ◌∷◌, get_or, Option, Some, None, ℤ, pos, ◌*ℤ◌, ◌≤ℤ◌}
use Rattle.std.specs.Prelude.{All, Contains, flat_map, int_lt}
use Rattle.std.specs.List.{enumerate_from}
use Rattle.std.proofs.lemmas.List.Elements.{All-append, All-head, All-nil, All-tail}
use Rattle.std.proofs.lemmas.Int.{ints}
use Rattle.definitions.specs.declared.Cosine.{Cosine}
use Rattle.definitions.specs.declared.Extreme.{Extreme}
use Rattle.definitions.specs.declared.Extremes.{Extremes}
use Rattle.definitions.specs.declared.Place.{Place}
use Rattle.definitions.specs.Angles.{angles, angles_of, extremes_of, is_less}
use Rattle.definitions.specs.Lists.{least_by}
use Rattle.definitions.specs.Mesh.{Mesh, mesh}
use Rattle.definitions.specs.Soundness.{IsPositive, corner_places}
use Rattle.dihedral.specs.Fractions.{IsAngle}
use Rattle.dihedral.proofs.AnglesAreFractions.{six_are_angles}
use Rattle.dihedral.proofs.CoveredAngles.{is_less-same}
use Rattle.dihedral.proofs.ExtremesOfLists.{extremes_are, is_larger, is_smaller, larger_is_weak, smaller_is_weak, no_extremes}
use Rattle.lattice_laws.specs.Ascending.{Has}
use Rattle.lattice_laws.proofs.Members.{place_of}
use Rattle.sound_laws.proofs.Positive.{tets_are_positive}
use Rattle.angle_laws.specs.Bounds.{AnglesAreBounded, AreBounds, BoundsAngles, IsAtMost}
use Rattle.angle_laws.proofs.LeastOfLists.{least_of}

not_less : (a b : Cosine) → is_less a b ≡ false → IsAtMost b a
not_less a b e = refused (a.sign *ℤ pos (a.num * b.den)) (b.sign *ℤ pos (b.num * a.den)) e
  where
    refused : (x y : ℤ) → int_lt x y ≡ false → y ≤ℤ x
    refused x y e = grind (arith, ints)

is_contained : {X : Type 0} (x : X) (xs : List X) → Has x xs → Contains xs x
is_contained x xs h = place_of x x xs h

-- ---- a list of fractions

fractions_are_bounded : (e : Extremes) (xs : List Extreme) → All IsAngle xs → Some e ≡ extremes_of xs → AreBounds e xs
fractions_are_bounded e xs all h =
    let are = extremes_are e xs h in
    let least = least_of IsAngle is_smaller smaller_is_weak (λ x. is_less-same x.cosine) xs e.least all are.least in
    let greatest = least_of IsAngle is_larger larger_is_weak (λ x. is_less-same x.cosine) xs e.greatest all are.greatest in
    record {
      least = is_contained e.least xs least.is_element;
      greatest = is_contained e.greatest xs greatest.is_element;
      between = λ k d lt. record {
        denominator = (all k d lt).den;
        below = not_less e.least.cosine (get_or xs k d).cosine (least.none_is_less k d lt);
        above = not_less (get_or xs k d).cosine e.greatest.cosine (greatest.none_is_less k d lt);
      };
    }

-- ---- the angles of a mesh

-- those of positive tetrahedra, numbered from a number on, are fractions
numbered_fractions : (places : List Place) (n : ℕ) (tets : List (List ℕ)) → All (IsPositive places) tets → All IsAngle (flat_map (angles_of places) (enumerate_from n tets))
numbered_fractions places n [] h = All-nil IsAngle
numbered_fractions places n (t ∷ tets) h =
    All-append IsAngle (angles_of places (n, t)) (flat_map (angles_of places) (enumerate_from (n + 1) tets))
    (six_are_angles (corner_places places t) (All-head (IsPositive places) t tets h) n t)
    (numbered_fractions places (n + 1) tets (All-tail (IsPositive places) t tets h))

pub angles_are_fractions : (m : Mesh) → All (IsPositive m.places) m.tets → All IsAngle (angles m)
unfolding angles
angles_are_fractions m h = numbered_fractions m.places 0 m.tets h

no_tets : (m : Mesh) → angles m ≡ [] → m.tets ≡ []
unfolding angles
no_tets m e = go m.tets e
  where
    go : (tets : List (List ℕ)) → flat_map (angles_of m.places) (enumerate_from 0 tets) ≡ [] → tets ≡ []
    go [] e = refl
    go (t ∷ tets) e = cc

none_found : (m : Mesh) → m.tets ≡ [] → None ≡ extremes_of (angles m)
unfolding angles extremes_of least_by
none_found m e = ap (λ ts. extremes_of (flat_map (angles_of m.places) (enumerate_from 0 ts))) (sym e)

pub mesh_is_bounded : (m : Mesh) → All (IsPositive m.places) m.tets → BoundsAngles (extremes_of (angles m)) m
mesh_is_bounded m h = go (extremes_of (angles m)) refl
  where
    go : (found : Option Extremes) → found ≡ extremes_of (angles m) → BoundsAngles found m
    go None e = record { none = ((λ _. no_tets m (no_extremes (angles m) e)), (λ _. refl)); some = tt }
    go (Some found) e = record { none = ((λ k. cc), (λ k. let f = none_found m k in let g : None ≡ Some found = f ∙ sym e in cc)); some = fractions_are_bounded found (angles m) (angles_are_fractions m h) e }

pub angles_are_bounded : AnglesAreBounded
angles_are_bounded f s small = mesh_is_bounded (mesh f s) (tets_are_positive f s small)
