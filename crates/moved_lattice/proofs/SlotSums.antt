-- Sums over the four slots of a lattice tetrahedron.
use Rattle.std.proofs.Common.{◌≡◌, List, [], ◌∷◌, refl, sym, ap, ◌∙◌}
use Rattle.std.proofs.Math.IntN.{ℤ, pos, ◌+ℤ◌, ◌*ℤ◌, *ℤ_comm}
use Rattle.exact.proofs.IntegerLaws.{zero_mul}
use Rattle.exact.specs.Polynomials.{Expression, variable, constant, plus, times}
use Rattle.exact.proofs.Ring.{ring}
use Rattle.lattice_laws.specs.Kinds.{Slot, slot_0, slot_1, slot_2, slot_3, number_of_slot}
use Rattle.moved_lattice.specs.WeightedSums.{sum4, sum4_expression}

-- 1 at the slot itself
abbrev pub delta : Slot → Slot → ℤ
delta slot_0 slot_0 = pos 1
delta slot_1 slot_1 = pos 1
delta slot_2 slot_2 = pos 1
delta slot_3 slot_3 = pos 1
delta _ _ = pos 0

-- a fact of each slot
pub each_slot : (P : Slot → Type 0) → P slot_0 → P slot_1 → P slot_2 → P slot_3 → (s : Slot) → P s
each_slot P a b c d slot_0 = a
each_slot P a b c d slot_1 = b
each_slot P a b c d slot_2 = c
each_slot P a b c d slot_3 = d

pub sum4_same : (f g : Slot → ℤ) → ((s : Slot) → f s ≡ g s) → sum4 f ≡ sum4 g
sum4_same f g h = λ i. h slot_0 i +ℤ h slot_1 i +ℤ h slot_2 i +ℤ h slot_3 i

-- the values f of the slots as variables
abbrev value : Slot → Expression
value s = variable (number_of_slot s)

abbrev values : (Slot → ℤ) → List ℤ
values f = f slot_0 ∷ f slot_1 ∷ f slot_2 ∷ f slot_3 ∷ []

abbrev at_slot : Slot → Expression
at_slot t = sum4_expression (λ j. times (constant (delta t j)) (value j))

-- of a sum over the slots the value at one of them
pub delta_row : (t : Slot) (f : Slot → ℤ) → sum4 (λ j. delta t j *ℤ f j) ≡ f t
delta_row slot_0 f = ring (values f) (at_slot slot_0) (value slot_0) refl
delta_row slot_1 f = ring (values f) (at_slot slot_1) (value slot_1) refl
delta_row slot_2 f = ring (values f) (at_slot slot_2) (value slot_2) refl
delta_row slot_3 f = ring (values f) (at_slot slot_3) (value slot_3) refl

abbrev twice_at_slot : Slot → Expression
twice_at_slot t = sum4_expression (λ j. times (times (constant (pos 2)) (constant (delta t j))) (value j))

pub twice_delta_row : (t : Slot) (f : Slot → ℤ) → sum4 (λ j. (pos 2 *ℤ delta t j) *ℤ f j) ≡ pos 2 *ℤ f t
twice_delta_row slot_0 f = ring (values f) (twice_at_slot slot_0) (times (constant (pos 2)) (value slot_0)) refl
twice_delta_row slot_1 f = ring (values f) (twice_at_slot slot_1) (times (constant (pos 2)) (value slot_1)) refl
twice_delta_row slot_2 f = ring (values f) (twice_at_slot slot_2) (times (constant (pos 2)) (value slot_2)) refl
twice_delta_row slot_3 f = ring (values f) (twice_at_slot slot_3) (times (constant (pos 2)) (value slot_3)) refl

pub delta_column : (t : Slot) (c : ℤ) → sum4 (λ j. delta j t *ℤ c) ≡ c
delta_column slot_0 c = delta_row slot_0 (λ j. c)
delta_column slot_1 c = delta_row slot_1 (λ j. c)
delta_column slot_2 c = delta_row slot_2 (λ j. c)
delta_column slot_3 c = delta_row slot_3 (λ j. c)

pub zero_row : (f : Slot → ℤ) (c : ℤ) → c ≡ pos 0 → sum4 (λ j. f j *ℤ c) ≡ c
zero_row f c e =
    let g = λ (j : Slot). ap (λ t. f j *ℤ t) e ∙ *ℤ_comm (f j) (pos 0) ∙ zero_mul (f j) in
    sum4_same (λ j. f j *ℤ c) (λ j. pos 0) g ∙ sym e

-- the order of two sums
pub swap : (f : Slot → Slot → ℤ) → sum4 (λ i. sum4 (λ j. f i j)) ≡ sum4 (λ j. sum4 (λ i. f i j))
swap f = ring (f slot_0 slot_0 ∷ f slot_0 slot_1 ∷ f slot_0 slot_2 ∷ f slot_0 slot_3 ∷ f slot_1 slot_0 ∷ f slot_1 slot_1 ∷ f slot_1 slot_2 ∷ f slot_1 slot_3 ∷ f slot_2 slot_0 ∷ f slot_2 slot_1 ∷ f slot_2 slot_2 ∷ f slot_2 slot_3 ∷ f slot_3 slot_0 ∷ f slot_3 slot_1 ∷ f slot_3 slot_2 ∷ f slot_3 slot_3 ∷ [])
    (plus (plus (plus (plus (plus (plus (variable 0) (variable 1)) (variable 2)) (variable 3)) (plus (plus (plus (variable 4) (variable 5)) (variable 6)) (variable 7))) (plus (plus (plus (variable 8) (variable 9)) (variable 10)) (variable 11))) (plus (plus (plus (variable 12) (variable 13)) (variable 14)) (variable 15)))
    (plus (plus (plus (plus (plus (plus (variable 0) (variable 4)) (variable 8)) (variable 12)) (plus (plus (plus (variable 1) (variable 5)) (variable 9)) (variable 13))) (plus (plus (plus (variable 2) (variable 6)) (variable 10)) (variable 14))) (plus (plus (plus (variable 3) (variable 7)) (variable 11)) (variable 15))) refl
