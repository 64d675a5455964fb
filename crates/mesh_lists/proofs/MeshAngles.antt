-- The extremes of the angles of a mesh, tetrahedron by tetrahedron.
use Rattle.std.proofs.Common.{◌≡◌, ℕ, ◌+◌, ◌<◌, ◌≤◌, refl, sym, ◌∙◌, ap, subst, arith, List, [], ◌∷◌, ◌++◌, length, take, get_or, Option, None}
use Rattle.std.specs.Prelude.{All, flat_map}
use Rattle.std.specs.List.{enumerate_from}
use Rattle.std.proofs.lemmas.List.{take_all}
use Rattle.definitions.specs.declared.Extreme.{Extreme}
use Rattle.definitions.specs.declared.Extremes.{Extremes}
use Rattle.definitions.specs.declared.Place.{Place}
use Rattle.definitions.specs.Angles.{angles, angles_of, extremes_of}
use Rattle.definitions.specs.Lists.{least_by}
use Rattle.definitions.specs.Mesh.{Mesh}
use Rattle.definitions.specs.Soundness.{IsPositive}
use Rattle.mesh_texts.specs.Report.{mesh_extremes}
use Rattle.angle_laws.specs.Bounds.{BoundsAngles}
use Rattle.angle_laws.proofs.MeshBounds.{mesh_is_bounded}
use Rattle.mesh_lists.proofs.NumberedLists.{numbered_more}

-- no angle yet
pub none_told : (f : ℕ × List ℕ → List Extreme) (tets : List (List ℕ)) → None ≡ extremes_of (flat_map f (enumerate_from 0 (take 0 tets)))
unfolding extremes_of least_by
none_told f [] = refl
none_told f (t ∷ tets) = refl

-- those of one more tetrahedron
pub one_more : (f : ℕ × List ℕ → List Extreme) (tets : List (List ℕ)) (i : ℕ) (found : Option Extremes) → i < length tets → found ≡ extremes_of (flat_map f (enumerate_from 0 (take i tets)) ++ f (i, get_or tets i [])) →
    found ≡ extremes_of (flat_map f (enumerate_from 0 (take (i + 1) tets)))
one_more f tets i found lt e = let z : i ≡ 0 + i = omega arith in e ∙ ap (λ n. extremes_of (flat_map f (enumerate_from 0 (take i tets)) ++ f (n, get_or tets i []))) z ∙ ap extremes_of (sym (numbered_more f 0 i tets [] lt))

-- the same, where the list is told by another name
pub told_by : (f : ℕ × List ℕ → List Extreme) (tets told : List (List ℕ)) (i : ℕ) (found : Option Extremes) → told ≡ tets → found ≡ extremes_of (flat_map f (enumerate_from 0 (take i tets)) ++ f (i, get_or told i [])) →
    found ≡ extremes_of (flat_map f (enumerate_from 0 (take i tets)) ++ f (i, get_or tets i []))
told_by f tets told i found e h = h ∙ ap (λ ts. extremes_of (flat_map f (enumerate_from 0 (take i tets)) ++ f (i, get_or ts i []))) e

-- those of all
pub all_told : (m : Mesh) (places : List Place) (told : List (List ℕ)) (n : ℕ) (found : Option Extremes) → places ≡ m.places → told ≡ m.tets → length told ≤ n →
    found ≡ extremes_of (flat_map (angles_of places) (enumerate_from 0 (take n m.tets))) → found ≡ mesh_extremes m
unfolding mesh_extremes angles
all_told m places told n found p t h e =
    e ∙ (λ i. extremes_of (flat_map (angles_of (p i)) (enumerate_from 0 (take_all n m.tets (subst (λ ts. length ts ≤ n) t h) i))))

-- what holds of all tetrahedra holds of each, where the lists are told by other names
pub holds_at : (P : List Place → List ℕ → Type 0) (m : Mesh) (places : List Place) (told : List (List ℕ)) (i : ℕ) → All (P m.places) m.tets → places ≡ m.places → told ≡ m.tets → i < length told → P places (get_or told i [])
holds_at P m places told i h p t lt =
    subst (λ ps. P ps (get_or told i [])) (sym p) (subst (λ ts. P m.places (get_or ts i [])) (sym t) (h i [] (subst (λ ts. i < length ts) t lt)))

-- the extremes bound all angles
pub bounded : (m : Mesh) (found : Option Extremes) → All (IsPositive m.places) m.tets → found ≡ mesh_extremes m → BoundsAngles found m
unfolding mesh_extremes
bounded m found h e = subst (λ o. BoundsAngles o m) (sym e) (mesh_is_bounded m h)
