-- The volume of four points that are weighted sums of four vertices: the determinant of the weights times the volume of the vertices.
use Rattle.std.proofs.Common.{◌≡◌, [], ◌∷◌, refl, sym, ap, ◌∙◌, arith}
use Rattle.std.proofs.Math.IntN.{ℤ, pos, ◌+ℤ◌, ◌*ℤ◌, neg_ℤ}
use Rattle.std.proofs.lemmas.Int.{ints}
use Rattle.exact.proofs.IntegerLaws.{zero_mul, mul_assoc}
use Rattle.exact.specs.Polynomials.{variable, plus, times, negate}
use Rattle.exact.specs.Determinants.{det3, det4, det3_expression}
use Rattle.exact.proofs.Ring.{ring}
use Rattle.exact.proofs.DeterminantLaws.{det3_product, det4_from_differences}
use Rattle.lattice_laws.specs.Vectors.{Vector, ◌*ᵥ◌}
use Rattle.lattice_laws.specs.Kinds.{Slot, slot_0, slot_1, slot_2, slot_3}
use Rattle.moved_lattice.specs.WeightedSums.{sum4, combination, volume_of_four, det_of_rows}

-- the volume of four points that are stretched
pub scaled_volume : (s : ℤ) (n : Slot → Vector) → s *ℤ (s *ℤ (s *ℤ volume_of_four n)) ≡ volume_of_four (λ i. s *ᵥ n i)
scaled_volume s n = ring (s ∷ (n slot_0).x ∷ (n slot_0).y ∷ (n slot_0).z ∷ (n slot_1).x ∷ (n slot_1).y ∷ (n slot_1).z ∷ (n slot_2).x ∷ (n slot_2).y ∷ (n slot_2).z ∷ (n slot_3).x ∷ (n slot_3).y ∷ (n slot_3).z ∷ [])
    (times (variable 0) (times (variable 0) (times (variable 0) (det3_expression (plus (variable 4) (negate (variable 1))) (plus (variable 5) (negate (variable 2))) (plus (variable 6) (negate (variable 3))) (plus (variable 7) (negate (variable 1))) (plus (variable 8) (negate (variable 2))) (plus (variable 9) (negate (variable 3))) (plus (variable 10) (negate (variable 1))) (plus (variable 11) (negate (variable 2))) (plus (variable 12) (negate (variable 3)))))))
    (det3_expression (plus (times (variable 0) (variable 4)) (negate (times (variable 0) (variable 1)))) (plus (times (variable 0) (variable 5)) (negate (times (variable 0) (variable 2)))) (plus (times (variable 0) (variable 6)) (negate (times (variable 0) (variable 3)))) (plus (times (variable 0) (variable 7)) (negate (times (variable 0) (variable 1)))) (plus (times (variable 0) (variable 8)) (negate (times (variable 0) (variable 2)))) (plus (times (variable 0) (variable 9)) (negate (times (variable 0) (variable 3)))) (plus (times (variable 0) (variable 10)) (negate (times (variable 0) (variable 1)))) (plus (times (variable 0) (variable 11)) (negate (times (variable 0) (variable 2)))) (plus (times (variable 0) (variable 12)) (negate (times (variable 0) (variable 3))))) refl

-- the difference of two weighted sums with equal weights in all
difference_of_sums : (a b f : Slot → ℤ) → sum4 a ≡ sum4 b → sum4 (λ j. a j *ℤ f j) +ℤ neg_ℤ (sum4 (λ j. b j *ℤ f j)) ≡ (a slot_1 +ℤ neg_ℤ (b slot_1)) *ℤ (f slot_1 +ℤ neg_ℤ (f slot_0)) +ℤ (a slot_2 +ℤ neg_ℤ (b slot_2)) *ℤ (f slot_2 +ℤ neg_ℤ (f slot_0)) +ℤ (a slot_3 +ℤ neg_ℤ (b slot_3)) *ℤ (f slot_3 +ℤ neg_ℤ (f slot_0))
difference_of_sums a b f e =
    ring (a slot_0 ∷ a slot_1 ∷ a slot_2 ∷ a slot_3 ∷ b slot_0 ∷ b slot_1 ∷ b slot_2 ∷ b slot_3 ∷ f slot_0 ∷ f slot_1 ∷ f slot_2 ∷ f slot_3 ∷ [])
    (plus (plus (plus (plus (times (variable 0) (variable 8)) (times (variable 1) (variable 9))) (times (variable 2) (variable 10))) (times (variable 3) (variable 11))) (negate (plus (plus (plus (times (variable 4) (variable 8)) (times (variable 5) (variable 9))) (times (variable 6) (variable 10))) (times (variable 7) (variable 11)))))
    (plus (plus (plus (times (plus (variable 1) (negate (variable 5))) (plus (variable 9) (negate (variable 8)))) (times (plus (variable 2) (negate (variable 6))) (plus (variable 10) (negate (variable 8))))) (times (plus (variable 3) (negate (variable 7))) (plus (variable 11) (negate (variable 8))))) (times (plus (plus (plus (plus (variable 0) (variable 1)) (variable 2)) (variable 3)) (negate (plus (plus (plus (variable 4) (variable 5)) (variable 6)) (variable 7)))) (variable 8))) refl
    ∙ last ((a slot_1 +ℤ neg_ℤ (b slot_1)) *ℤ (f slot_1 +ℤ neg_ℤ (f slot_0)) +ℤ (a slot_2 +ℤ neg_ℤ (b slot_2)) *ℤ (f slot_2 +ℤ neg_ℤ (f slot_0)) +ℤ (a slot_3 +ℤ neg_ℤ (b slot_3)) *ℤ (f slot_3 +ℤ neg_ℤ (f slot_0))) (sum4 a) (sum4 b) (f slot_0) e
  where
    last : (m x y z : ℤ) → x ≡ y → m +ℤ (x +ℤ neg_ℤ y) *ℤ z ≡ m
    last m x y z e = let g : (x +ℤ neg_ℤ y) *ℤ z ≡ pos 0 = ap (λ t. t *ℤ z) (let h : x +ℤ neg_ℤ y ≡ pos 0 = omega (arith, ints) in h) ∙ zero_mul z in (λ i. m +ℤ g i) ∙ (let h : m +ℤ pos 0 ≡ m = omega (arith, ints) in h)

-- the determinant of weighted sums
determinant_of_sums : (s : ℤ) (w : Slot → Slot → ℤ) (p : Slot → Vector) → ((i : Slot) → sum4 (w i) ≡ s) → s *ℤ volume_of_four (λ i. combination (w i) p) ≡ det_of_rows w *ℤ volume_of_four p
determinant_of_sums s w p e =
    let d1x = difference_of_sums (w slot_1) (w slot_0) (λ j. (p j).x) (e slot_1 ∙ sym (e slot_0)) in
    let d1y = difference_of_sums (w slot_1) (w slot_0) (λ j. (p j).y) (e slot_1 ∙ sym (e slot_0)) in
    let d1z = difference_of_sums (w slot_1) (w slot_0) (λ j. (p j).z) (e slot_1 ∙ sym (e slot_0)) in
    let d2x = difference_of_sums (w slot_2) (w slot_0) (λ j. (p j).x) (e slot_2 ∙ sym (e slot_0)) in
    let d2y = difference_of_sums (w slot_2) (w slot_0) (λ j. (p j).y) (e slot_2 ∙ sym (e slot_0)) in
    let d2z = difference_of_sums (w slot_2) (w slot_0) (λ j. (p j).z) (e slot_2 ∙ sym (e slot_0)) in
    let d3x = difference_of_sums (w slot_3) (w slot_0) (λ j. (p j).x) (e slot_3 ∙ sym (e slot_0)) in
    let d3y = difference_of_sums (w slot_3) (w slot_0) (λ j. (p j).y) (e slot_3 ∙ sym (e slot_0)) in
    let d3z = difference_of_sums (w slot_3) (w slot_0) (λ j. (p j).z) (e slot_3 ∙ sym (e slot_0)) in
    (λ t. s *ℤ det3 (d1x t) (d1y t) (d1z t) (d2x t) (d2y t) (d2z t) (d3x t) (d3y t) (d3z t))
    ∙ ap (λ t. s *ℤ t) (det3_product (w slot_1 slot_1 +ℤ neg_ℤ (w slot_0 slot_1)) (w slot_1 slot_2 +ℤ neg_ℤ (w slot_0 slot_2)) (w slot_1 slot_3 +ℤ neg_ℤ (w slot_0 slot_3)) (w slot_2 slot_1 +ℤ neg_ℤ (w slot_0 slot_1)) (w slot_2 slot_2 +ℤ neg_ℤ (w slot_0 slot_2)) (w slot_2 slot_3 +ℤ neg_ℤ (w slot_0 slot_3)) (w slot_3 slot_1 +ℤ neg_ℤ (w slot_0 slot_1)) (w slot_3 slot_2 +ℤ neg_ℤ (w slot_0 slot_2)) (w slot_3 slot_3 +ℤ neg_ℤ (w slot_0 slot_3)) ((p slot_1).x +ℤ neg_ℤ ((p slot_0).x)) ((p slot_1).y +ℤ neg_ℤ ((p slot_0).y)) ((p slot_1).z +ℤ neg_ℤ ((p slot_0).z)) ((p slot_2).x +ℤ neg_ℤ ((p slot_0).x)) ((p slot_2).y +ℤ neg_ℤ ((p slot_0).y)) ((p slot_2).z +ℤ neg_ℤ ((p slot_0).z)) ((p slot_3).x +ℤ neg_ℤ ((p slot_0).x)) ((p slot_3).y +ℤ neg_ℤ ((p slot_0).y)) ((p slot_3).z +ℤ neg_ℤ ((p slot_0).z)))
    ∙ sym (mul_assoc s (det3 (w slot_1 slot_1 +ℤ neg_ℤ (w slot_0 slot_1)) (w slot_1 slot_2 +ℤ neg_ℤ (w slot_0 slot_2)) (w slot_1 slot_3 +ℤ neg_ℤ (w slot_0 slot_3)) (w slot_2 slot_1 +ℤ neg_ℤ (w slot_0 slot_1)) (w slot_2 slot_2 +ℤ neg_ℤ (w slot_0 slot_2)) (w slot_2 slot_3 +ℤ neg_ℤ (w slot_0 slot_3)) (w slot_3 slot_1 +ℤ neg_ℤ (w slot_0 slot_1)) (w slot_3 slot_2 +ℤ neg_ℤ (w slot_0 slot_2)) (w slot_3 slot_3 +ℤ neg_ℤ (w slot_0 slot_3))) (volume_of_four p))
    ∙ ap (λ t. t *ℤ volume_of_four p) (det4_from_differences s (w slot_0 slot_1) (w slot_0 slot_2) (w slot_0 slot_3) (w slot_1 slot_1) (w slot_1 slot_2) (w slot_1 slot_3) (w slot_2 slot_1) (w slot_2 slot_2) (w slot_2 slot_3) (w slot_3 slot_1) (w slot_3 slot_2) (w slot_3 slot_3))
    ∙ (λ t. det4 (first (w slot_0) s (e slot_0) t) (w slot_0 slot_1) (w slot_0 slot_2) (w slot_0 slot_3) (first (w slot_1) s (e slot_1) t) (w slot_1 slot_1) (w slot_1 slot_2) (w slot_1 slot_3) (first (w slot_2) s (e slot_2) t) (w slot_2 slot_1) (w slot_2 slot_2) (w slot_2 slot_3) (first (w slot_3) s (e slot_3) t) (w slot_3 slot_1) (w slot_3 slot_2) (w slot_3 slot_3) *ℤ volume_of_four p)
  where
    first : (a : Slot → ℤ) (s : ℤ) → sum4 a ≡ s → s +ℤ neg_ℤ (a slot_1) +ℤ neg_ℤ (a slot_2) +ℤ neg_ℤ (a slot_3) ≡ a slot_0
    first a s e = omega (arith, ints)

-- s times each node is a weighted sum of the vertices, each weight list adding up to s
pub volume_of_sums : (s : ℤ) (w : Slot → Slot → ℤ) (n p : Slot → Vector) → ((i : Slot) → sum4 (w i) ≡ s) → ((i : Slot) → s *ᵥ n i ≡ combination (w i) p) → s *ℤ (s *ℤ (s *ℤ (s *ℤ volume_of_four n))) ≡ det_of_rows w *ℤ volume_of_four p
volume_of_sums s w n p e h = ap (λ t. s *ℤ t) (scaled_volume s n ∙ (λ t. volume_of_four (places t))) ∙ determinant_of_sums s w p e
  where
    places : 𝕀 → Slot → Vector
    places t i = h i t
