-- The keys of nodes on a face are those of its three vertices: so they are the same from both sides.
use Rattle.std.proofs.Common.{◌≡◌, ℕ, zero, suc, ◌+◌, ◌*◌, ◌<◌, true, not, ◌&&◌, ◌==◌, List, [], ◌∷◌, map, length, refl, sym, ap, arith}
use Rattle.std.specs.Prelude.{slice_index_or}
use Rattle.std.proofs.lemmas.Bool.Decides.{nat_tests}
use Rattle.std.proofs.lemmas.Bool.{and_parts}
use Rattle.definitions.specs.declared.Vertex.{Vertex}
use Rattle.definitions.specs.declared.Sign.{Sign}
use Rattle.definitions.specs.declared.Corner.{Corner}
use Rattle.definitions.specs.declared.Corner.TheVariants.{Whole, Cut}
use Rattle.definitions.specs.Lattice.{direction, vertex}
use Rattle.definitions.specs.Pieces.{corner_key}
use Rattle.definitions.specs.Stencils.{is_on_face}
use Rattle.lattice_laws.specs.NumberedTetrahedra.{is_corner}
use Rattle.stencil_laws.specs.Faces.{face_corner, slot_on_face, signs_without}
use Rattle.face_laws.specs.Shapes.{without}
use Rattle.face_laws.specs.Sides.{is_within_face}

-- ---- the slots of a node

pub whole_slot : (a : ℕ) → is_corner (Whole a) ≡ true → a < 4
whole_slot a h = grind (arith, nat_tests)

pub cut_slots : (a b : ℕ) → is_corner (Cut a b) ≡ true → (a < b) × (b < 4)
cut_slots a b h = (grind (arith, nat_tests), grind (arith, nat_tests))

-- ---- a list of four without one

at_without_four : {X : Type 0} (p q r s z : X) (n a : ℕ) → n < 4 → a < 4 → not (a == n) ≡ true
    → slice_index_or (without n (p ∷ q ∷ r ∷ s ∷ [])) (slot_on_face n a) z ≡ slice_index_or (p ∷ q ∷ r ∷ s ∷ []) a z
at_without_four p q r s z zero zero ln la ne = cc
at_without_four p q r s z zero (suc zero) ln la ne = refl
at_without_four p q r s z zero (suc (suc zero)) ln la ne = refl
at_without_four p q r s z zero (suc (suc (suc zero))) ln la ne = refl
at_without_four p q r s z zero (suc (suc (suc (suc a)))) ln la ne = absurd (omega arith)
at_without_four p q r s z (suc zero) zero ln la ne = refl
at_without_four p q r s z (suc zero) (suc zero) ln la ne = cc
at_without_four p q r s z (suc zero) (suc (suc zero)) ln la ne = refl
at_without_four p q r s z (suc zero) (suc (suc (suc zero))) ln la ne = refl
at_without_four p q r s z (suc zero) (suc (suc (suc (suc a)))) ln la ne = absurd (omega arith)
at_without_four p q r s z (suc (suc zero)) zero ln la ne = refl
at_without_four p q r s z (suc (suc zero)) (suc zero) ln la ne = refl
at_without_four p q r s z (suc (suc zero)) (suc (suc zero)) ln la ne = cc
at_without_four p q r s z (suc (suc zero)) (suc (suc (suc zero))) ln la ne = refl
at_without_four p q r s z (suc (suc zero)) (suc (suc (suc (suc a)))) ln la ne = absurd (omega arith)
at_without_four p q r s z (suc (suc (suc zero))) zero ln la ne = refl
at_without_four p q r s z (suc (suc (suc zero))) (suc zero) ln la ne = refl
at_without_four p q r s z (suc (suc (suc zero))) (suc (suc zero)) ln la ne = refl
at_without_four p q r s z (suc (suc (suc zero))) (suc (suc (suc zero))) ln la ne = cc
at_without_four p q r s z (suc (suc (suc zero))) (suc (suc (suc (suc a)))) ln la ne = absurd (omega arith)
at_without_four p q r s z (suc (suc (suc (suc n)))) a ln la ne = absurd (omega arith)

pub at_without : {X : Type 0} (xs : List X) (z : X) (n a : ℕ) → length xs ≡ 4 → n < 4 → a < 4 → not (a == n) ≡ true → slice_index_or (without n xs) (slot_on_face n a) z ≡ slice_index_or xs a z
at_without (p ∷ q ∷ r ∷ s ∷ []) z n a len ln la ne = at_without_four p q r s z n a ln la ne
at_without [] z n a len ln la ne = absurd (omega arith)
at_without (p ∷ []) z n a len ln la ne = absurd (omega arith)
at_without (p ∷ q ∷ []) z n a len ln la ne = absurd (omega arith)
at_without (p ∷ q ∷ r ∷ []) z n a len ln la ne = absurd (omega arith)
at_without (p ∷ q ∷ r ∷ s ∷ t ∷ more) z n a len ln la ne = absurd (omega arith)

pub signs_without_mapped : {X : Type 0} (f : X → Sign) (n : ℕ) (xs : List X) → signs_without n (map f xs) ≡ map f (without n xs)
signs_without_mapped f n [] = refl
signs_without_mapped f zero (x ∷ xs) = refl
signs_without_mapped f (suc n) (x ∷ xs) = ap (λ ys. f x ∷ ys) (signs_without_mapped f n xs)

-- ---- keys

module _ (tet : List Vertex) (ids : List ℕ) (n : ℕ) (four : length tet ≡ 4) (ids_four : length ids ≡ 4) (low : n < 4) where
  abbrev face_key : Corner → ℕ
  face_key c = corner_key (without n tet) (without n ids) c

  key_on_face : (c : Corner) → is_corner c ≡ true → is_on_face n c ≡ true → corner_key tet ids c ≡ face_key (face_corner n c)
  key_on_face (Whole a) h k = ap (λ m. 8 * m) (sym (at_without ids 0 n a ids_four low (whole_slot a h) k))
  key_on_face (Cut a b) h k =
      let l = cut_slots a b h in
      let f = and_parts (not (a == n)) (not (b == n)) k in
      let la : a < 4 = omega (arith, l.0, l.1) in
      λ i. 8 * sym (at_without ids 0 n a ids_four low la f.0) i + direction (sym (at_without tet (vertex 0 0 0) n a four low la f.0) i) (sym (at_without tet (vertex 0 0 0) n b four low l.1 f.1) i)

  pub keys_on_face : (t : List Corner) → is_within_face n t ≡ true → map (corner_key tet ids) t ≡ map face_key (map (face_corner n) t)
  keys_on_face [] h = refl
  keys_on_face (c ∷ t) h =
      let s = and_parts (is_corner c && is_on_face n c) (is_within_face n t) h in
      let r = and_parts (is_corner c) (is_on_face n c) s.0 in
      λ i. key_on_face c r.0 r.1 i ∷ keys_on_face t s.1 i
