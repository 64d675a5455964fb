-- Rows of numbers with one or two columns, their sums and the weighted sums of vectors.
use Rattle.std.specs.Prelude.{ℕ, zero, suc, ◌<◌, List, [], ◌∷◌}
use Rattle.std.proofs.Common.{◌≡◌, refl, sym, ◌∙◌, arith}
use Rattle.std.proofs.Math.IntN.{ℤ, pos, ◌+ℤ◌, ◌*ℤ◌}
use Rattle.std.proofs.lemmas.Int.{ints}
use Rattle.exact.specs.Polynomials.{Expression, variable, constant, plus, times, evaluate}
use Rattle.exact.proofs.Ring.{ring}
use Rattle.lattice_laws.specs.Vectors.{Vector, vector, ◌+ᵥ◌, ◌*ᵥ◌}
use Rattle.lattice_laws.specs.Kinds.{Kind, Slot, slot_0, slot_1, slot_2, slot_3, slot_of, number_of_slot, offset}
use Rattle.moved_lattice.specs.WeightedSums.{sum4, combination}
use Rattle.displacement_laws.specs.DisplacedRows.{displaced_row}
use Rattle.displacement_laws.proofs.DisplacedRows.{row_place}
use Rattle.stencil_laws.specs.NodeRows.{in_column}
use Rattle.piece_laws.specs.SignedVolumes.{lattice_place}

-- an expression in one column
abbrev pub column : List ℤ → Expression → ℕ → Slot → ℤ
column r e a j = evaluate r (in_column e a (number_of_slot j))

pub column_sum : (r : List ℤ) (e : Expression) (a : ℕ) → a < 4 → sum4 (column r e a) ≡ evaluate r e
column_sum r e zero h = ring (evaluate r e ∷ []) (plus (plus (plus (variable 0) (constant (pos 0))) (constant (pos 0))) (constant (pos 0))) (variable 0) refl
column_sum r e (suc zero) h = ring (evaluate r e ∷ []) (plus (plus (plus (constant (pos 0)) (variable 0)) (constant (pos 0))) (constant (pos 0))) (variable 0) refl
column_sum r e (suc (suc zero)) h = ring (evaluate r e ∷ []) (plus (plus (plus (constant (pos 0)) (constant (pos 0))) (variable 0)) (constant (pos 0))) (variable 0) refl
column_sum r e (suc (suc (suc zero))) h = ring (evaluate r e ∷ []) (plus (plus (plus (constant (pos 0)) (constant (pos 0))) (constant (pos 0))) (variable 0)) (variable 0) refl
column_sum r e (suc (suc (suc (suc a)))) h = absurd (omega arith)

column_coordinate : (r : List ℤ) (e : Expression) (f : Slot → ℤ) (a : ℕ) → a < 4 → sum4 (λ j. column r e a j *ℤ f j) ≡ evaluate r e *ℤ f (slot_of a)
column_coordinate r e f zero h = ring (evaluate r e ∷ f slot_0 ∷ f slot_1 ∷ f slot_2 ∷ f slot_3 ∷ []) (plus (plus (plus (times (variable 0) (variable 1)) (times (constant (pos 0)) (variable 2))) (times (constant (pos 0)) (variable 3))) (times (constant (pos 0)) (variable 4))) (times (variable 0) (variable 1)) refl
column_coordinate r e f (suc zero) h = ring (evaluate r e ∷ f slot_0 ∷ f slot_1 ∷ f slot_2 ∷ f slot_3 ∷ []) (plus (plus (plus (times (constant (pos 0)) (variable 1)) (times (variable 0) (variable 2))) (times (constant (pos 0)) (variable 3))) (times (constant (pos 0)) (variable 4))) (times (variable 0) (variable 2)) refl
column_coordinate r e f (suc (suc zero)) h = ring (evaluate r e ∷ f slot_0 ∷ f slot_1 ∷ f slot_2 ∷ f slot_3 ∷ []) (plus (plus (plus (times (constant (pos 0)) (variable 1)) (times (constant (pos 0)) (variable 2))) (times (variable 0) (variable 3))) (times (constant (pos 0)) (variable 4))) (times (variable 0) (variable 3)) refl
column_coordinate r e f (suc (suc (suc zero))) h = ring (evaluate r e ∷ f slot_0 ∷ f slot_1 ∷ f slot_2 ∷ f slot_3 ∷ []) (plus (plus (plus (times (constant (pos 0)) (variable 1)) (times (constant (pos 0)) (variable 2))) (times (constant (pos 0)) (variable 3))) (times (variable 0) (variable 4))) (times (variable 0) (variable 4)) refl
column_coordinate r e f (suc (suc (suc (suc a)))) h = absurd (omega arith)

pub column_place : (r : List ℤ) (e : Expression) (q : Slot → Vector) (a : ℕ) → a < 4 → combination (column r e a) q ≡ evaluate r e *ᵥ q (slot_of a)
column_place r e q a h = λ i. vector (column_coordinate r e (λ j. (q j).x) a h i) (column_coordinate r e (λ j. (q j).y) a h i) (column_coordinate r e (λ j. (q j).z) a h i)

-- two rows together
pub sum_of_rows : (f g : Slot → ℤ) → sum4 (λ j. f j +ℤ g j) ≡ sum4 f +ℤ sum4 g
sum_of_rows f g =
    ring (f slot_0 ∷ f slot_1 ∷ f slot_2 ∷ f slot_3 ∷ g slot_0 ∷ g slot_1 ∷ g slot_2 ∷ g slot_3 ∷ [])
    (plus (plus (plus (plus (variable 0) (variable 4)) (plus (variable 1) (variable 5))) (plus (variable 2) (variable 6))) (plus (variable 3) (variable 7)))
    (plus (plus (plus (plus (variable 0) (variable 1)) (variable 2)) (variable 3)) (plus (plus (plus (variable 4) (variable 5)) (variable 6)) (variable 7))) refl

coordinate_of_rows : (f g h : Slot → ℤ) → sum4 (λ j. (f j +ℤ g j) *ℤ h j) ≡ sum4 (λ j. f j *ℤ h j) +ℤ sum4 (λ j. g j *ℤ h j)
coordinate_of_rows f g h =
    ring (f slot_0 ∷ f slot_1 ∷ f slot_2 ∷ f slot_3 ∷ g slot_0 ∷ g slot_1 ∷ g slot_2 ∷ g slot_3 ∷ h slot_0 ∷ h slot_1 ∷ h slot_2 ∷ h slot_3 ∷ [])
    (plus (plus (plus (times (plus (variable 0) (variable 4)) (variable 8)) (times (plus (variable 1) (variable 5)) (variable 9))) (times (plus (variable 2) (variable 6)) (variable 10))) (times (plus (variable 3) (variable 7)) (variable 11)))
    (plus (plus (plus (plus (times (variable 0) (variable 8)) (times (variable 1) (variable 9))) (times (variable 2) (variable 10))) (times (variable 3) (variable 11))) (plus (plus (plus (times (variable 4) (variable 8)) (times (variable 5) (variable 9))) (times (variable 6) (variable 10))) (times (variable 7) (variable 11)))) refl

pub place_of_rows : (f g : Slot → ℤ) (q : Slot → Vector) → combination (λ j. f j +ℤ g j) q ≡ combination f q +ᵥ combination g q
place_of_rows f g q = λ i. vector (coordinate_of_rows f g (λ j. (q j).x) i) (coordinate_of_rows f g (λ j. (q j).y) i) (coordinate_of_rows f g (λ j. (q j).z) i)

-- ---- the row of a moved vertex

-- it gives 8192 times the place that the vertex is moved to
pub moved_place : (b : Vector) (κ : Kind) (s : Slot) (d : Vector) → combination (displaced_row κ s d) (lattice_place b κ) ≡ pos 8192 *ᵥ (lattice_place b κ s +ᵥ d)
moved_place b κ s d =
    (λ i. combination (displaced_row κ s d) (λ j. apart (offset κ j) i))
    ∙ row_place κ s (pos 4096 *ᵥ b) d
    ∙ (λ i. pos 8192 *ᵥ (sym (apart (offset κ s)) i +ᵥ d))
  where
    apart : (o : Vector) → pos 4096 *ᵥ (b +ᵥ o) ≡ pos 4096 *ᵥ b +ᵥ pos 4096 *ᵥ o
    apart o = λ i. vector (go b.x o.x i) (go b.y o.y i) (go b.z o.z i)
      where
        go : (x y : ℤ) → pos 4096 *ℤ (x +ℤ y) ≡ pos 4096 *ℤ x +ℤ pos 4096 *ℤ y
        go x y = omega (arith, ints)
