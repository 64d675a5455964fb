-- The vertices of the domain are vectors of the lattice.
use Rattle.std.proofs.Common.{◌≡◌, ℕ, ◌+◌, ◌*◌, ◌/◌, ◌%◌, arith, refl, ◌∙◌, [], ◌∷◌}
use Rattle.std.proofs.Math.IntN.{ℤ, pos, negsuc, ◌+ℤ◌, ◌*ℤ◌}
use Rattle.std.proofs.lemmas.Int.{ints}
use Rattle.definitions.specs.declared.Dims.{Dims}
use Rattle.definitions.specs.declared.Vertex.{Vertex}
use Rattle.definitions.specs.Lattice.{InDomain}
use Rattle.exact.specs.Polynomials.{variable, constant, plus, times}
use Rattle.exact.proofs.Ring.{ring}
use Rattle.lattice_laws.specs.Kinds.{Kind, kind_146, kind_256, kind_347, kind_357, kind_467, kind_567, Slot, slot_0, vector_of}
use Rattle.moved_lattice.specs.Duals.{dual}
use Rattle.moved_lattice.specs.WeightedSums.{IsLattice}

abbrev half_of : ℤ → ℤ
half_of (pos n) = pos (n / 2)
half_of (negsuc n) = negsuc (n / 2)

abbrev dual_total : Kind → Slot → ℤ
dual_total κ s = ((dual κ s).x +ℤ (dual κ s).y) +ℤ (dual κ s).z

-- the coordinates of a form add up to an even number
even_total : (κ : Kind) (s : Slot) → dual_total κ s ≡ pos 2 *ℤ half_of (dual_total κ s)
even_total kind_146 slot_0 = refl
even_total kind_256 slot_0 = refl
even_total kind_347 slot_0 = refl
even_total kind_357 slot_0 = refl
even_total kind_467 slot_0 = refl
even_total kind_567 slot_0 = refl
even_total κ s = refl

halves : (a r : ℕ) → a % 2 ≡ r → pos a ≡ pos 2 *ℤ pos (a / 2) +ℤ pos r
halves a r e = let f : a ≡ 2 * (a / 2) + r = omega arith in omega (arith, ints)

-- a form at a vector whose coordinates have one remainder
even_form : (p q r x y z h m : ℤ) → (p +ℤ q) +ℤ r ≡ pos 2 *ℤ h
    → ((p *ℤ (pos 2 *ℤ x +ℤ m)) +ℤ (q *ℤ (pos 2 *ℤ y +ℤ m))) +ℤ (r *ℤ (pos 2 *ℤ z +ℤ m)) ≡ pos 2 *ℤ ((((p *ℤ x) +ℤ (q *ℤ y)) +ℤ (r *ℤ z)) +ℤ h *ℤ m)
even_form p q r x y z h m e =
    ring (p ∷ q ∷ r ∷ x ∷ y ∷ z ∷ m ∷ [])
    (plus (plus (times (variable 0) (plus (times (constant (pos 2)) (variable 3)) (variable 6))) (times (variable 1) (plus (times (constant (pos 2)) (variable 4)) (variable 6)))) (times (variable 2) (plus (times (constant (pos 2)) (variable 5)) (variable 6))))
    (plus (times (constant (pos 2)) (plus (plus (times (variable 0) (variable 3)) (times (variable 1) (variable 4))) (times (variable 2) (variable 5)))) (times (plus (plus (variable 0) (variable 1)) (variable 2)) (variable 6))) refl
    ∙ (λ i. pos 2 *ℤ (((p *ℤ x) +ℤ (q *ℤ y)) +ℤ (r *ℤ z)) +ℤ e i *ℤ m)
    ∙ ring (p ∷ q ∷ r ∷ x ∷ y ∷ z ∷ m ∷ h ∷ [])
    (plus (times (constant (pos 2)) (plus (plus (times (variable 0) (variable 3)) (times (variable 1) (variable 4))) (times (variable 2) (variable 5)))) (times (times (constant (pos 2)) (variable 7)) (variable 6)))
    (times (constant (pos 2)) (plus (plus (plus (times (variable 0) (variable 3)) (times (variable 1) (variable 4))) (times (variable 2) (variable 5))) (times (variable 7) (variable 6)))) refl

-- vertices of the domain are on the lattice
pub vertex_on_lattice : (d : Dims) (v : Vertex) → InDomain d v → IsLattice (vector_of v)
vertex_on_lattice d v k κ s =
    let y = k.y_alike in
    let x = k.x_alike in
    let m = v.h % 2 in (
      (((((dual κ s).x *ℤ pos (v.x / 2)) +ℤ ((dual κ s).y *ℤ pos (v.y / 2))) +ℤ ((dual κ s).z *ℤ pos (v.h / 2))) +ℤ half_of (dual_total κ s) *ℤ pos m),
      (λ i. (((dual κ s).x *ℤ halves v.x m x i) +ℤ ((dual κ s).y *ℤ halves v.y m y i)) +ℤ ((dual κ s).z *ℤ halves v.h m refl i))
          ∙ even_form (dual κ s).x (dual κ s).y (dual κ s).z (pos (v.x / 2)) (pos (v.y / 2)) (pos (v.h / 2)) (half_of (dual_total κ s)) (pos m) (even_total κ s),
    )
