-- Lattice vertices: their coordinates are all even or all odd, and each vertex of a lattice tetrahedron at one is one.
use Rattle.std.proofs.Common.{◌≡◌, [], ◌∷◌, refl, ◌∙◌}
use Rattle.std.proofs.Math.IntN.{ℤ, pos, negsuc, ◌+ℤ◌, ◌*ℤ◌}
use Rattle.definitions.specs.Vectors.{dot}
use Rattle.exact.specs.Polynomials.{variable, constant, plus, times}
use Rattle.exact.proofs.Ring.{ring}
use Rattle.lattice_laws.specs.Vectors.{Vector, vector, ◌+ᵥ◌, ◌*ᵥ◌}
use Rattle.lattice_laws.specs.Kinds.{Kind, kind_146, kind_256, kind_347, kind_357, kind_467, kind_567, Slot, slot_0, slot_1, slot_2, slot_3, offset}
use Rattle.moved_lattice.specs.Duals.{dual}
use Rattle.moved_lattice.specs.WeightedSums.{IsLattice, vertex_of}

abbrev ones : Vector
ones = vector (pos 1) (pos 1) (pos 1)

pub even_lattice : (a : Vector) → IsLattice (pos 2 *ᵥ a)
even_lattice a κ s = (
  dot (dual κ s) a,
  ring ((dual κ s).x ∷ (dual κ s).y ∷ (dual κ s).z ∷ a.x ∷ a.y ∷ a.z ∷ [])
      (plus (plus (times (variable 0) (times (constant (pos 2)) (variable 3))) (times (variable 1) (times (constant (pos 2)) (variable 4)))) (times (variable 2) (times (constant (pos 2)) (variable 5))))
      (times (constant (pos 2)) (plus (plus (times (variable 0) (variable 3)) (times (variable 1) (variable 4))) (times (variable 2) (variable 5)))) refl,
)

pub sum_lattice : (p q : Vector) → IsLattice p → IsLattice q → IsLattice (p +ᵥ q)
sum_lattice p q hp hq κ s =
    let m = hp κ s in
    let n = hq κ s in
    (m.0 +ℤ n.0, linear (dual κ s) p q ∙ (λ i. m.1 i +ℤ n.1 i) ∙ twice m.0 n.0)
  where
    linear : (l p q : Vector) → dot l (p +ᵥ q) ≡ dot l p +ℤ dot l q
    linear l p q = ring (l.x ∷ l.y ∷ l.z ∷ p.x ∷ p.y ∷ p.z ∷ q.x ∷ q.y ∷ q.z ∷ [])
        (plus (plus (times (variable 0) (plus (variable 3) (variable 6))) (times (variable 1) (plus (variable 4) (variable 7)))) (times (variable 2) (plus (variable 5) (variable 8))))
        (plus (plus (plus (times (variable 0) (variable 3)) (times (variable 1) (variable 4))) (times (variable 2) (variable 5))) (plus (plus (times (variable 0) (variable 6)) (times (variable 1) (variable 7))) (times (variable 2) (variable 8)))) refl

    twice : (m n : ℤ) → pos 2 *ℤ m +ℤ pos 2 *ℤ n ≡ pos 2 *ℤ (m +ℤ n)
    twice m n = ring (m ∷ n ∷ []) (plus (times (constant (pos 2)) (variable 0)) (times (constant (pos 2)) (variable 1))) (times (constant (pos 2)) (plus (variable 0) (variable 1))) refl

-- half a form at (1,1,1)
abbrev half_ones : Kind → Slot → ℤ
half_ones kind_146 slot_0 = negsuc 0
half_ones kind_146 slot_3 = pos 1
half_ones kind_256 slot_0 = negsuc 0
half_ones kind_256 slot_3 = pos 1
half_ones kind_347 slot_1 = negsuc 0
half_ones kind_347 slot_3 = pos 1
half_ones kind_357 slot_1 = negsuc 0
half_ones kind_357 slot_3 = pos 1
half_ones kind_467 slot_0 = negsuc 0
half_ones kind_467 slot_2 = pos 1
half_ones kind_567 slot_0 = negsuc 0
half_ones kind_567 slot_2 = pos 1
half_ones _ _ = pos 0

ones_lattice : IsLattice ones
ones_lattice κ s = (half_ones κ s, go κ s)
  where
    go : (κ : Kind) (s : Slot) → dot (dual κ s) ones ≡ pos 2 *ℤ half_ones κ s
    go kind_146 slot_0 = refl
    go kind_256 slot_0 = refl
    go kind_347 slot_0 = refl
    go kind_357 slot_0 = refl
    go kind_467 slot_0 = refl
    go kind_567 slot_0 = refl
    go κ s = refl

pub odd_lattice : (a : Vector) → IsLattice (pos 2 *ᵥ a +ᵥ ones)
odd_lattice a = sum_lattice (pos 2 *ᵥ a) ones (even_lattice a) ones_lattice

offset_lattice : (κ : Kind) (s : Slot) → IsLattice (offset κ s)
offset_lattice kind_146 slot_0 = even_lattice (vector (pos 0) (pos 0) (pos 0))
offset_lattice kind_146 slot_1 = even_lattice (vector (pos 1) (pos 0) (pos 0))
offset_lattice kind_146 slot_2 = odd_lattice (vector (pos 0) (negsuc 0) (pos 0))
offset_lattice kind_146 slot_3 = odd_lattice (vector (pos 0) (pos 0) (pos 0))
offset_lattice kind_256 slot_0 = even_lattice (vector (pos 0) (pos 0) (pos 0))
offset_lattice kind_256 slot_1 = even_lattice (vector (pos 0) (pos 1) (pos 0))
offset_lattice kind_256 slot_2 = odd_lattice (vector (negsuc 0) (pos 0) (pos 0))
offset_lattice kind_256 slot_3 = odd_lattice (vector (pos 0) (pos 0) (pos 0))
offset_lattice kind_347 slot_0 = even_lattice (vector (pos 0) (pos 0) (pos 0))
offset_lattice kind_347 slot_1 = odd_lattice (vector (negsuc 0) (negsuc 0) (pos 0))
offset_lattice kind_347 slot_2 = odd_lattice (vector (pos 0) (negsuc 0) (pos 0))
offset_lattice kind_347 slot_3 = even_lattice (vector (pos 0) (pos 0) (pos 1))
offset_lattice kind_357 slot_0 = even_lattice (vector (pos 0) (pos 0) (pos 0))
offset_lattice kind_357 slot_1 = odd_lattice (vector (negsuc 0) (negsuc 0) (pos 0))
offset_lattice kind_357 slot_2 = odd_lattice (vector (negsuc 0) (pos 0) (pos 0))
offset_lattice kind_357 slot_3 = even_lattice (vector (pos 0) (pos 0) (pos 1))
offset_lattice kind_467 slot_0 = even_lattice (vector (pos 0) (pos 0) (pos 0))
offset_lattice kind_467 slot_1 = odd_lattice (vector (pos 0) (negsuc 0) (pos 0))
offset_lattice kind_467 slot_2 = odd_lattice (vector (pos 0) (pos 0) (pos 0))
offset_lattice kind_467 slot_3 = even_lattice (vector (pos 0) (pos 0) (pos 1))
offset_lattice kind_567 slot_0 = even_lattice (vector (pos 0) (pos 0) (pos 0))
offset_lattice kind_567 slot_1 = odd_lattice (vector (negsuc 0) (pos 0) (pos 0))
offset_lattice kind_567 slot_2 = odd_lattice (vector (pos 0) (pos 0) (pos 0))
offset_lattice kind_567 slot_3 = even_lattice (vector (pos 0) (pos 0) (pos 1))

pub vertex_is_lattice : (b : Vector) (κ : Kind) (s : Slot) → IsLattice b → IsLattice (vertex_of b κ s)
vertex_is_lattice b κ s h = sum_lattice b (offset κ s) h (offset_lattice κ s)
