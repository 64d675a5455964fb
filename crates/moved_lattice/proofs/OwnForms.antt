-- A slot's own form at a point gives the point's weight there.
use Rattle.std.proofs.Common.{◌≡◌, ℕ, ◌*◌, [], ◌∷◌, refl, ap, subst, arith, true}
use Rattle.std.proofs.Math.IntN.{ℤ, pos, ◌+ℤ◌, ◌*ℤ◌, neg_ℤ}
use Rattle.std.proofs.lemmas.Int.{ints}
use Rattle.exact.specs.Polynomials.{Expression, variable, constant, plus, times, negate, is_same}
use Rattle.exact.proofs.Ring.{ring}
use Rattle.lattice_laws.specs.Vectors.{x_of, y_of, z_of, Vector, ◌-ᵥ◌, ◌*ᵥ◌}
use Rattle.lattice_laws.specs.Kinds.{Kind, kind_146, kind_256, kind_347, kind_357, kind_467, kind_567, Slot, slot_0, slot_1, slot_2, slot_3, offset}
use Rattle.moved_lattice.specs.Duals.{dual}
use Rattle.definitions.specs.Vectors.{dot}
use Rattle.moved_lattice.specs.WeightedSums.{sum4, combination, dot_expression, sum4_expression, vertex_of, Holds, as_integers}

-- The expressions: the base is variable 0 to variable 2, the weights variable 3 to variable 6
abbrev weight_expression : Slot → Expression
weight_expression slot_0 = variable 3
weight_expression slot_1 = variable 4
weight_expression slot_2 = variable 5
weight_expression slot_3 = variable 6

-- the weighted sum of the vertices, less the sum of the weights times the vertex s
abbrev relative_expression : (i : ℕ) → (Vector → ℤ) → Kind → Slot → Expression
relative_expression i f κ s = plus (sum4_expression (λ j. times (weight_expression j) (plus (variable i) (constant (f (offset κ j)))))) (negate (times (sum4_expression weight_expression) (plus (variable i) (constant (f (offset κ s))))))

own_ring : (κ : Kind) (s : Slot) → is_same (dot_expression (dual κ s) (relative_expression 0 x_of κ s) (relative_expression 1 y_of κ s) (relative_expression 2 z_of κ s)) (plus (times (constant (pos 2)) (weight_expression s)) (negate (times (constant (pos 2)) (sum4_expression weight_expression)))) ≡ true
own_ring kind_146 slot_0 = refl
own_ring kind_256 slot_0 = refl
own_ring kind_347 slot_0 = refl
own_ring kind_357 slot_0 = refl
own_ring kind_467 slot_0 = refl
own_ring kind_567 slot_0 = refl
own_ring κ s = refl

-- a slot's own form at the point, from the slot's vertex: twice its weight less twice the whole
own_sum : (b : Vector) (κ : Kind) (w : Slot → ℤ) (s : Slot) → dot (dual κ s) (combination w (vertex_of b κ) -ᵥ sum4 w *ᵥ vertex_of b κ s) ≡ pos 2 *ℤ w s +ℤ neg_ℤ (pos 2 *ℤ sum4 w)
own_sum b κ w slot_0 = ring (b.x ∷ b.y ∷ b.z ∷ w slot_0 ∷ w slot_1 ∷ w slot_2 ∷ w slot_3 ∷ []) (dot_expression (dual κ slot_0) (relative_expression 0 x_of κ slot_0) (relative_expression 1 y_of κ slot_0) (relative_expression 2 z_of κ slot_0)) (plus (times (constant (pos 2)) (weight_expression slot_0)) (negate (times (constant (pos 2)) (sum4_expression weight_expression)))) (own_ring κ slot_0)
own_sum b κ w slot_1 = ring (b.x ∷ b.y ∷ b.z ∷ w slot_0 ∷ w slot_1 ∷ w slot_2 ∷ w slot_3 ∷ []) (dot_expression (dual κ slot_1) (relative_expression 0 x_of κ slot_1) (relative_expression 1 y_of κ slot_1) (relative_expression 2 z_of κ slot_1)) (plus (times (constant (pos 2)) (weight_expression slot_1)) (negate (times (constant (pos 2)) (sum4_expression weight_expression)))) (own_ring κ slot_1)
own_sum b κ w slot_2 = ring (b.x ∷ b.y ∷ b.z ∷ w slot_0 ∷ w slot_1 ∷ w slot_2 ∷ w slot_3 ∷ []) (dot_expression (dual κ slot_2) (relative_expression 0 x_of κ slot_2) (relative_expression 1 y_of κ slot_2) (relative_expression 2 z_of κ slot_2)) (plus (times (constant (pos 2)) (weight_expression slot_2)) (negate (times (constant (pos 2)) (sum4_expression weight_expression)))) (own_ring κ slot_2)
own_sum b κ w slot_3 = ring (b.x ∷ b.y ∷ b.z ∷ w slot_0 ∷ w slot_1 ∷ w slot_2 ∷ w slot_3 ∷ []) (dot_expression (dual κ slot_3) (relative_expression 0 x_of κ slot_3) (relative_expression 1 y_of κ slot_3) (relative_expression 2 z_of κ slot_3)) (plus (times (constant (pos 2)) (weight_expression slot_3)) (negate (times (constant (pos 2)) (sum4_expression weight_expression)))) (own_ring κ slot_3)

-- a slot's own form at the point, from the slot's vertex: twice its weight less twice the whole
pub own_form : (b : Vector) (κ : Kind) (w : Slot → ℕ) (p : Vector) (n : ℕ) (s : Slot) → Holds b κ w p n → dot (dual κ s) (p -ᵥ pos n *ᵥ vertex_of b κ s) +ℤ pos (2 * n) ≡ pos (2 * w s)
own_form b κ w p n s h =
    let e = own_sum b κ (as_integers w) s in
    let t : sum4 (as_integers w) ≡ pos n = ap pos h.total in
    let f : dot (dual κ s) (p -ᵥ pos n *ᵥ vertex_of b κ s) ≡ pos 2 *ℤ pos (w s) +ℤ neg_ℤ (pos 2 *ℤ pos n) =
    subst (λ (q : Vector). dot (dual κ s) (q -ᵥ pos n *ᵥ vertex_of b κ s) ≡ pos 2 *ℤ pos (w s) +ℤ neg_ℤ (pos 2 *ℤ pos n)) h.place
    (subst (λ (m : ℤ). dot (dual κ s) (combination (as_integers w) (vertex_of b κ) -ᵥ m *ᵥ vertex_of b κ s) ≡ pos 2 *ℤ pos (w s) +ℤ neg_ℤ (pos 2 *ℤ m)) t e) in
    omega (arith, ints)
