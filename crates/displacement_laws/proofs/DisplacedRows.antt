-- The row of a displaced vertex adds up to 8192, gives the moved place, and has a dominant diagonal.
use Rattle.std.proofs.Common.{◌≡◌, ℕ, ◌≤◌, [], ◌∷◌, refl, sym, ap, ◌∙◌, subst, arith}
use Rattle.std.proofs.Math.IntN.{ℤ, pos, ◌+ℤ◌, ◌*ℤ◌, nat_abs}
use Rattle.std.proofs.lemmas.Int.{ints}
use lib.Signed.{◌<ℤ◌}
use Rattle.definitions.specs.Vectors.{dot}
use Rattle.exact.specs.Polynomials.{variable, constant, plus, times}
use Rattle.exact.proofs.Ring.{ring}
use Rattle.lattice_laws.specs.Kinds.{Kind, Slot, slot_0, slot_1, slot_2, slot_3, Direction, offset, step_vector}
use Rattle.lattice_laws.specs.Vectors.{Vector, ◌+ᵥ◌, ◌*ᵥ◌}
use Rattle.moved_lattice.specs.Duals.{limit, dual}
use Rattle.moved_lattice.specs.MovedMatrix.{row, others}
use Rattle.moved_lattice.specs.WeightedSums.{sum4, combination}
use Rattle.moved_lattice.proofs.Contraction.{dominant_row, dual_place, dual_sum}
use Rattle.displacement_laws.specs.Displacements.{IsDisplacement, displaced_by}
use Rattle.displacement_laws.specs.DisplacedRows.{displaced_row}

-- ---- sums

sum_0 : (a b c d : ℤ) → a +ℤ b +ℤ c +ℤ d ≡ pos 0 → (pos 8192 +ℤ a) +ℤ (pos 0 +ℤ b) +ℤ (pos 0 +ℤ c) +ℤ (pos 0 +ℤ d) ≡ pos 8192
sum_0 a b c d e = omega (arith, ints)

sum_1 : (a b c d : ℤ) → a +ℤ b +ℤ c +ℤ d ≡ pos 0 → (pos 0 +ℤ a) +ℤ (pos 8192 +ℤ b) +ℤ (pos 0 +ℤ c) +ℤ (pos 0 +ℤ d) ≡ pos 8192
sum_1 a b c d e = omega (arith, ints)

sum_2 : (a b c d : ℤ) → a +ℤ b +ℤ c +ℤ d ≡ pos 0 → (pos 0 +ℤ a) +ℤ (pos 0 +ℤ b) +ℤ (pos 8192 +ℤ c) +ℤ (pos 0 +ℤ d) ≡ pos 8192
sum_2 a b c d e = omega (arith, ints)

sum_3 : (a b c d : ℤ) → a +ℤ b +ℤ c +ℤ d ≡ pos 0 → (pos 0 +ℤ a) +ℤ (pos 0 +ℤ b) +ℤ (pos 0 +ℤ c) +ℤ (pos 8192 +ℤ d) ≡ pos 8192
sum_3 a b c d e = omega (arith, ints)

pub row_sum : (κ : Kind) (s : Slot) (d : Vector) → sum4 (displaced_row κ s d) ≡ pos 8192
row_sum κ slot_0 d = sum_0 (dot (dual κ slot_0) d) (dot (dual κ slot_1) d) (dot (dual κ slot_2) d) (dot (dual κ slot_3) d) (dual_sum κ d)
row_sum κ slot_1 d = sum_1 (dot (dual κ slot_0) d) (dot (dual κ slot_1) d) (dot (dual κ slot_2) d) (dot (dual κ slot_3) d) (dual_sum κ d)
row_sum κ slot_2 d = sum_2 (dot (dual κ slot_0) d) (dot (dual κ slot_1) d) (dot (dual κ slot_2) d) (dot (dual κ slot_3) d) (dual_sum κ d)
row_sum κ slot_3 d = sum_3 (dot (dual κ slot_0) d) (dot (dual κ slot_1) d) (dot (dual κ slot_2) d) (dot (dual κ slot_3) d) (dual_sum κ d)

-- ---- the moved place

-- weights that add up to n, over places at offsets from one
from_base : (a b c d p q r s o n t : ℤ) → a +ℤ b +ℤ c +ℤ d ≡ n → a *ℤ p +ℤ b *ℤ q +ℤ c *ℤ r +ℤ d *ℤ s ≡ t
    → a *ℤ (o +ℤ pos 4096 *ℤ p) +ℤ b *ℤ (o +ℤ pos 4096 *ℤ q) +ℤ c *ℤ (o +ℤ pos 4096 *ℤ r) +ℤ d *ℤ (o +ℤ pos 4096 *ℤ s) ≡ n *ℤ o +ℤ pos 4096 *ℤ t
from_base a b c d p q r s o n t e f =
    ring (a ∷ b ∷ c ∷ d ∷ p ∷ q ∷ r ∷ s ∷ o ∷ [])
    (plus (plus (plus (times (variable 0) (plus (variable 8) (times (constant (pos 4096)) (variable 4)))) (times (variable 1) (plus (variable 8) (times (constant (pos 4096)) (variable 5))))) (times (variable 2) (plus (variable 8) (times (constant (pos 4096)) (variable 6))))) (times (variable 3) (plus (variable 8) (times (constant (pos 4096)) (variable 7)))))
    (plus (times (plus (plus (plus (variable 0) (variable 1)) (variable 2)) (variable 3)) (variable 8)) (times (constant (pos 4096)) (plus (plus (plus (times (variable 0) (variable 4)) (times (variable 1) (variable 5))) (times (variable 2) (variable 6))) (times (variable 3) (variable 7))))) refl
    ∙ (λ i. e i *ℤ o +ℤ pos 4096 *ℤ f i)

-- 8192 more at one slot
more : (a b c d p q r s t : ℤ) (m n o l : ℤ) → a *ℤ p +ℤ b *ℤ q +ℤ c *ℤ r +ℤ d *ℤ s ≡ t
    → (m +ℤ a) *ℤ p +ℤ (n +ℤ b) *ℤ q +ℤ (o +ℤ c) *ℤ r +ℤ (l +ℤ d) *ℤ s ≡ (m *ℤ p +ℤ n *ℤ q +ℤ o *ℤ r +ℤ l *ℤ s) +ℤ t
more a b c d p q r s t m n o l e =
    ring (a ∷ b ∷ c ∷ d ∷ p ∷ q ∷ r ∷ s ∷ m ∷ n ∷ o ∷ l ∷ [])
    (plus (plus (plus (times (plus (variable 8) (variable 0)) (variable 4)) (times (plus (variable 9) (variable 1)) (variable 5))) (times (plus (variable 10) (variable 2)) (variable 6))) (times (plus (variable 11) (variable 3)) (variable 7)))
    (plus (plus (plus (plus (times (variable 8) (variable 4)) (times (variable 9) (variable 5))) (times (variable 10) (variable 6))) (times (variable 11) (variable 7))) (plus (plus (plus (times (variable 0) (variable 4)) (times (variable 1) (variable 5))) (times (variable 2) (variable 6))) (times (variable 3) (variable 7)))) refl
    ∙ (λ i. (m *ℤ p +ℤ n *ℤ q +ℤ o *ℤ r +ℤ l *ℤ s) +ℤ e i)

last_step : (o p g : ℤ) → pos 8192 *ℤ o +ℤ pos 4096 *ℤ (pos 8192 *ℤ p +ℤ pos 2 *ℤ g) ≡ pos 8192 *ℤ (o +ℤ pos 4096 *ℤ p +ℤ g)
last_step o p g = omega (arith, ints)

-- one coordinate of the row's sum, where the base place has o there, and the displacement g
one_coordinate : (κ : Kind) (s : Slot) (d : Vector) (f : Slot → ℤ) (o g : ℤ) → sum4 (λ j. dot (dual κ j) d *ℤ f j) ≡ pos 2 *ℤ g
    → sum4 (λ j. displaced_row κ s d j *ℤ (o +ℤ pos 4096 *ℤ f j)) ≡ pos 8192 *ℤ (o +ℤ pos 4096 *ℤ f s +ℤ g)
one_coordinate κ s d f o g e = go s
  where
    part : (m n q l t : ℤ) → sum4 (λ j. dot (dual κ j) d *ℤ f j) ≡ pos 2 *ℤ g → m *ℤ f slot_0 +ℤ n *ℤ f slot_1 +ℤ q *ℤ f slot_2 +ℤ l *ℤ f slot_3 ≡ pos 8192 *ℤ t
        → (m +ℤ dot (dual κ slot_0) d) *ℤ f slot_0 +ℤ (n +ℤ dot (dual κ slot_1) d) *ℤ f slot_1 +ℤ (q +ℤ dot (dual κ slot_2) d) *ℤ f slot_2 +ℤ (l +ℤ dot (dual κ slot_3) d) *ℤ f slot_3 ≡ pos 8192 *ℤ t +ℤ pos 2 *ℤ g
    part m n q l t h k =
        more (dot (dual κ slot_0) d) (dot (dual κ slot_1) d) (dot (dual κ slot_2) d) (dot (dual κ slot_3) d) (f slot_0) (f slot_1) (f slot_2) (f slot_3) (pos 2 *ℤ g) m n q l h
        ∙ (λ i. k i +ℤ pos 2 *ℤ g)

    unit : (p q r t : ℤ) → (pos 8192 *ℤ p +ℤ pos 0 *ℤ q +ℤ pos 0 *ℤ r +ℤ pos 0 *ℤ t ≡ pos 8192 *ℤ p) × (pos 0 *ℤ p +ℤ pos 8192 *ℤ q +ℤ pos 0 *ℤ r +ℤ pos 0 *ℤ t ≡ pos 8192 *ℤ q) × (pos 0 *ℤ p +ℤ pos 0 *ℤ q +ℤ pos 8192 *ℤ r +ℤ pos 0 *ℤ t ≡ pos 8192 *ℤ r) × (pos 0 *ℤ p +ℤ pos 0 *ℤ q +ℤ pos 0 *ℤ r +ℤ pos 8192 *ℤ t ≡ pos 8192 *ℤ t)
    unit p q r t = (omega (arith, ints), omega (arith, ints), omega (arith, ints), omega (arith, ints))

    whole : (s : Slot) (t : ℤ) → sum4 (λ j. displaced_row κ s d j *ℤ f j) ≡ pos 8192 *ℤ t +ℤ pos 2 *ℤ g → sum4 (λ j. displaced_row κ s d j *ℤ (o +ℤ pos 4096 *ℤ f j)) ≡ pos 8192 *ℤ (o +ℤ pos 4096 *ℤ t +ℤ g)
    whole s t h =
        from_base (displaced_row κ s d slot_0) (displaced_row κ s d slot_1) (displaced_row κ s d slot_2) (displaced_row κ s d slot_3) (f slot_0) (f slot_1) (f slot_2) (f slot_3) o (pos 8192) (pos 8192 *ℤ t +ℤ pos 2 *ℤ g) (row_sum κ s d) h
        ∙ last_step o t g

    go : (s : Slot) → sum4 (λ j. displaced_row κ s d j *ℤ (o +ℤ pos 4096 *ℤ f j)) ≡ pos 8192 *ℤ (o +ℤ pos 4096 *ℤ f s +ℤ g)
    go slot_0 = whole slot_0 (f slot_0) (part (pos 8192) (pos 0) (pos 0) (pos 0) (f slot_0) e (unit (f slot_0) (f slot_1) (f slot_2) (f slot_3)).0)
    go slot_1 = whole slot_1 (f slot_1) (part (pos 0) (pos 8192) (pos 0) (pos 0) (f slot_1) e (unit (f slot_0) (f slot_1) (f slot_2) (f slot_3)).1)
    go slot_2 = whole slot_2 (f slot_2) (part (pos 0) (pos 0) (pos 8192) (pos 0) (f slot_2) e (unit (f slot_0) (f slot_1) (f slot_2) (f slot_3)).2)
    go slot_3 = whole slot_3 (f slot_3) (part (pos 0) (pos 0) (pos 0) (pos 8192) (f slot_3) e (unit (f slot_0) (f slot_1) (f slot_2) (f slot_3)).3)

-- the sum of the places is the moved place, in 8192 parts
pub row_place : (κ : Kind) (s : Slot) (p d : Vector) → combination (displaced_row κ s d) (λ j. p +ᵥ pos 4096 *ᵥ offset κ j) ≡ pos 8192 *ᵥ (p +ᵥ pos 4096 *ᵥ offset κ s +ᵥ d)
row_place κ s p d =
    let e = dual_place κ d in
    λ i. record {
      x = one_coordinate κ s d (λ j. (offset κ j).x) p.x d.x e.0 i;
      y = one_coordinate κ s d (λ j. (offset κ j).y) p.y d.y e.1 i;
      z = one_coordinate κ s d (λ j. (offset κ j).z) p.z d.z e.2 i;
    }

-- ---- dominance

scaled_dot : (p q : Vector) (t : ℕ) → dot p (pos t *ᵥ q) ≡ pos t *ℤ dot p q
scaled_dot p q t =
    ring (p.x ∷ p.y ∷ p.z ∷ q.x ∷ q.y ∷ q.z ∷ pos t ∷ [])
    (plus (plus (times (variable 0) (times (variable 6) (variable 3))) (times (variable 1) (times (variable 6) (variable 4)))) (times (variable 2) (times (variable 6) (variable 5))))
    (times (variable 6) (plus (plus (times (variable 0) (variable 3)) (times (variable 1) (variable 4))) (times (variable 2) (variable 5)))) refl

from_nothing : (a : ℤ) → pos 0 +ℤ a ≡ a
from_nothing a = omega (arith, ints)

-- the row of a displacement by t parts in a direction is that of the direction
row_is : (κ : Kind) (s : Slot) (δ : Direction) (t : ℕ) (j : Slot) → displaced_row κ s (pos t *ᵥ step_vector δ) j ≡ row κ s δ t j
row_is κ slot_0 δ t slot_0 = ap (λ a. pos 8192 +ℤ a) (scaled_dot (dual κ slot_0) (step_vector δ) t)
row_is κ slot_1 δ t slot_1 = ap (λ a. pos 8192 +ℤ a) (scaled_dot (dual κ slot_1) (step_vector δ) t)
row_is κ slot_2 δ t slot_2 = ap (λ a. pos 8192 +ℤ a) (scaled_dot (dual κ slot_2) (step_vector δ) t)
row_is κ slot_3 δ t slot_3 = ap (λ a. pos 8192 +ℤ a) (scaled_dot (dual κ slot_3) (step_vector δ) t)
row_is κ s δ t j = from_nothing (dot (dual κ j) (pos t *ᵥ step_vector δ)) ∙ scaled_dot (dual κ j) (step_vector δ) t

along_direction : (κ : Kind) (s : Slot) (δ : Direction) (t : ℕ) → t ≤ limit δ
    → pos (others s (λ j. nat_abs (displaced_row κ s (pos t *ᵥ step_vector δ) j))) <ℤ displaced_row κ s (pos t *ᵥ step_vector δ) s
along_direction κ s δ t h = subst (λ (w : Slot → ℤ). pos (others s (λ j. nat_abs (w j))) <ℤ w s) (λ i j. sym (row_is κ s δ t j) i) (dominant_row κ s δ t h)

pub row_dominates : (κ : Kind) (s : Slot) (d : Vector) → IsDisplacement d → pos (others s (λ j. nat_abs (displaced_row κ s d j))) <ℤ displaced_row κ s d s
row_dominates κ s d (displaced_by δ t h e) = subst (λ (p : Vector). pos (others s (λ j. nat_abs (displaced_row κ s p j))) <ℤ displaced_row κ s p s) (sym e) (along_direction κ s δ t h)
