-- The weights of a point in a lattice tetrahedron, by the four forms of its kind: where none is below 0 the tetrahedron holds the point.
use Rattle.std.proofs.Common.{◌≡◌, ℕ, ◌*◌, [], ◌∷◌, refl, ap, ◌∙◌, true}
use Rattle.std.proofs.Math.IntN.{ℤ, pos, ◌+ℤ◌, ◌*ℤ◌, nat_abs}
use lib.Signed.{◌≤ℤ◌}
use borrow.Author.Differences.{up}
use Rattle.definitions.specs.Vectors.{dot}
use Rattle.exact.specs.Polynomials.{Expression, variable, constant, plus, times, negate, is_same}
use Rattle.exact.proofs.Ring.{ring}
use Rattle.exact.proofs.IntegerOrder.{size_of_nonnegative}
use Rattle.lattice_laws.specs.Vectors.{Vector, vector, ◌-ᵥ◌, ◌*ᵥ◌}
use Rattle.lattice_laws.specs.Kinds.{Kind, kind_146, Slot, slot_0, slot_1, slot_2, slot_3, offset}
use Rattle.moved_lattice.specs.Duals.{dual}
use Rattle.moved_lattice.specs.WeightedSums.{total_weight, sum4, combination, dot_expression, sum4_expression, vertex_of, Holds}

-- what a slot's form lacks of twice its weight, of 1: forms are taken from the lowest vertex
abbrev pub first_slot_alone : Slot → ℤ
first_slot_alone slot_0 = pos 2
first_slot_alone _ = pos 0

-- twice a slot's weight at the point q (from the lowest vertex) over n
abbrev pub form_at : Kind → Slot → Vector → ℤ → ℤ
form_at κ s q n = dot (dual κ s) q +ℤ first_slot_alone s *ℤ n

abbrev form_expression : Kind → Slot → Expression
form_expression κ s = plus (dot_expression (dual κ s) (variable 0) (variable 1) (variable 2)) (times (constant (first_slot_alone s)) (variable 3))

places_sum : (κ : Kind) (q : Vector) (n : ℤ) → sum4 (λ j. form_at κ j q n) ≡ pos 2 *ℤ n
places_sum κ q n = ring (q.x ∷ q.y ∷ q.z ∷ n ∷ []) (sum4_expression (form_expression κ)) (times (constant (pos 2)) (variable 3)) (go κ)
  where
    go : (κ : Kind) → is_same (sum4_expression (form_expression κ)) (times (constant (pos 2)) (variable 3)) ≡ true
    go kind_146 = refl
    go κ = refl

-- with the base variable 4 to variable 6 and the point variable 0 to variable 2
abbrev form_expression_from_base : Kind → Slot → Expression
form_expression_from_base κ s = plus (dot_expression (dual κ s) (plus (variable 0) (negate (times (variable 3) (variable 4)))) (plus (variable 1) (negate (times (variable 3) (variable 5)))) (plus (variable 2) (negate (times (variable 3) (variable 6))))) (times (constant (first_slot_alone s)) (variable 3))

places_point : (κ : Kind) (b p : Vector) (n : ℤ) → combination (λ j. form_at κ j (p -ᵥ n *ᵥ b) n) (vertex_of b κ) ≡ pos 2 *ᵥ p
places_point κ b p n =
    let r = p.x ∷ p.y ∷ p.z ∷ n ∷ b.x ∷ b.y ∷ b.z ∷ [] in
    let x = ring r (sum4_expression (λ j. times (form_expression_from_base κ j) (plus (variable 4) (constant (offset κ j).x)))) (times (constant (pos 2)) (variable 0)) (gox κ) in
    let y = ring r (sum4_expression (λ j. times (form_expression_from_base κ j) (plus (variable 5) (constant (offset κ j).y)))) (times (constant (pos 2)) (variable 1)) (goy κ) in
    let z = ring r (sum4_expression (λ j. times (form_expression_from_base κ j) (plus (variable 6) (constant (offset κ j).z)))) (times (constant (pos 2)) (variable 2)) (goz κ) in
    λ i. vector (x i) (y i) (z i)
  where
    gox : (κ : Kind) → is_same (sum4_expression (λ j. times (form_expression_from_base κ j) (plus (variable 4) (constant (offset κ j).x)))) (times (constant (pos 2)) (variable 0)) ≡ true
    gox kind_146 = refl
    gox κ = refl

    goy : (κ : Kind) → is_same (sum4_expression (λ j. times (form_expression_from_base κ j) (plus (variable 5) (constant (offset κ j).y)))) (times (constant (pos 2)) (variable 1)) ≡ true
    goy kind_146 = refl
    goy κ = refl

    goz : (κ : Kind) → is_same (sum4_expression (λ j. times (form_expression_from_base κ j) (plus (variable 6) (constant (offset κ j).z)))) (times (constant (pos 2)) (variable 2)) ≡ true
    goz kind_146 = refl
    goz κ = refl

-- the weights by the forms
abbrev pub weights : Kind → Vector → Vector → ℕ → Slot → ℕ
weights κ b p n s = nat_abs (form_at κ s (p -ᵥ pos n *ᵥ b) (pos n))

-- a point at which no form is below 0 is held
pub holds_by_forms : (κ : Kind) (b p : Vector) (n : ℕ) → ((s : Slot) → pos 0 ≤ℤ form_at κ s (p -ᵥ pos n *ᵥ b) (pos n)) → Holds b κ (weights κ b p n) (pos 2 *ᵥ p) (2 * n)
holds_by_forms κ b p n h =
    let f = λ (s : Slot). form_at κ s (p -ᵥ pos n *ᵥ b) (pos n) in
    let e = λ (s : Slot). size_of_nonnegative (f s) (h s) in
    let t : pos (total_weight (weights κ b p n)) ≡ pos (2 * n) =
    (λ i. e slot_0 i +ℤ e slot_1 i +ℤ e slot_2 i +ℤ e slot_3 i) ∙ places_sum κ (p -ᵥ pos n *ᵥ b) (pos n) in
    record { total = ap up t; place = (λ i. combination (λ j. e j i) (vertex_of b κ)) ∙ places_point κ b p (pos n) }
