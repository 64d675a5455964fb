-- The moved matrix has a dominant diagonal, and the displacement contracts.
use Rattle.std.proofs.Common.{◌≡◌, ℕ, ◌+◌, ◌*◌, ◌-◌, ◌<◌, ◌≤◌, [], ◌∷◌, refl, sym, ap, ◌∙◌, arith, Bool, true, ◌&&◌, ltb}
use Rattle.std.proofs.Math.IntN.{ℤ, pos, ◌+ℤ◌, ◌*ℤ◌, neg_ℤ, nat_abs, *ℤ_comm}
use Rattle.std.proofs.Math.Nat.{mul-le-mul_left, mul-le-mul_right}
use Rattle.std.proofs.lemmas.Int.{ints, unsigned_abs-mul}
use Rattle.std.proofs.lemmas.Bool.{ltb-true, and_parts}
use lib.Signed.{◌<ℤ◌}
use borrow.Author.Differences.{up, down, product_is, below_in}
use Rattle.exact.specs.Polynomials.{Expression, variable, constant, plus, times, negate, is_same}
use Rattle.exact.proofs.IntegerLaws.{zero_mul}
use Rattle.exact.proofs.Ring.{ring}
use Rattle.lattice_laws.specs.Vectors.{Vector, ◌+ᵥ◌, norm}
use Rattle.lattice_laws.specs.Kinds.{Kind, kind_146, kind_256, kind_347, kind_357, kind_467, kind_567, Slot, slot_0, slot_1, slot_2, slot_3, Direction, offset, number_of_slot}
use Rattle.moved_lattice.specs.Duals.{limit, dual}
use Rattle.definitions.specs.Vectors.{dot}
use Rattle.exact.specs.Dominance.{Above4}
use Rattle.moved_lattice.specs.WeightedSums.{sum4, combination, sum4_expression, dot_expression}
use Rattle.moved_lattice.specs.MovedMatrix.{gain, row, others}
use Rattle.moved_lattice.proofs.PointForms.{first_slot_alone}
use Rattle.moved_lattice.proofs.EveryKind.{every_slot, every_kind, every_direction, slot_passes, kind_passes, direction_passes}

abbrev check : Kind → Slot → Direction → Bool
check κ s d = ltb ((others s (λ j. nat_abs (gain κ d j)) + down (gain κ d s) - up (gain κ d s)) * limit d) 8192

table_checks : every_kind (λ κ. every_slot (λ s. every_direction (λ d. check κ s d))) ≡ true
table_checks = refl

check_at : (κ : Kind) (s : Slot) (d : Direction) → check κ s d ≡ true
check_at κ s d = direction_passes (check κ s) (slot_passes (λ s. every_direction (λ d. check κ s d)) (kind_passes (λ κ. every_slot (λ s. every_direction (λ d. check κ s d))) table_checks κ) s) d

-- from the greatest distance to a smaller one
scaled : (m n t l : ℕ) → t ≤ l → (m - n) * l < 8192 → m * t < 8192 + n * t
scaled m n t l h i =
    let u : (m - n) * t ≤ (m - n) * l = mul-le-mul_left (m - n) h in
    let w : m * t ≤ (m - n + n) * t = mul-le-mul_right t (omega arith) in
    omega arith

row_above : (c a b d : ℤ) (t l : ℕ) → t ≤ l → (nat_abs a + nat_abs b + nat_abs d + down c - up c) * l < 8192
    → Above4 (pos 8192 +ℤ pos t *ℤ c) (pos t *ℤ a) (pos t *ℤ b) (pos t *ℤ d)
row_above c a b d t l h i =
    let e = scaled (nat_abs a + nat_abs b + nat_abs d + down c) (up c) t l h i in
    let f = unsigned_abs-mul (pos t) a in
    let g = unsigned_abs-mul (pos t) b in
    let j = unsigned_abs-mul (pos t) d in
    let q = product_is (pos t) c in
    below_in _ _ (omega (arith, ints))

-- the moved matrix's rows are dominant
pub dominant_row : (κ : Kind) (s : Slot) (d : Direction) (t : ℕ) → t ≤ limit d
    → pos (others s (λ j. nat_abs (row κ s d t j))) <ℤ row κ s d t s
dominant_row κ slot_0 d t h = row_above (gain κ d slot_0) (gain κ d slot_1) (gain κ d slot_2) (gain κ d slot_3) t (limit d) h (ltb-true _ _ (check_at κ slot_0 d))
dominant_row κ slot_1 d t h = row_above (gain κ d slot_1) (gain κ d slot_0) (gain κ d slot_2) (gain κ d slot_3) t (limit d) h (ltb-true _ _ (check_at κ slot_1 d))
dominant_row κ slot_2 d t h = row_above (gain κ d slot_2) (gain κ d slot_0) (gain κ d slot_1) (gain κ d slot_3) t (limit d) h (ltb-true _ _ (check_at κ slot_2 d))
dominant_row κ slot_3 d t h = row_above (gain κ d slot_3) (gain κ d slot_0) (gain κ d slot_1) (gain κ d slot_2) t (limit d) h (ltb-true _ _ (check_at κ slot_3 d))

-- the four forms add up to 0, and give twice the vector back
pub dual_sum : (κ : Kind) (p : Vector) → sum4 (λ j. dot (dual κ j) p) ≡ pos 0
dual_sum κ p = ring (p.x ∷ p.y ∷ p.z ∷ []) (sum4_expression (λ j. dot_expression (dual κ j) (variable 0) (variable 1) (variable 2))) (constant (pos 0)) (go κ)
  where
    go : (κ : Kind) → is_same (sum4_expression (λ j. dot_expression (dual κ j) (variable 0) (variable 1) (variable 2))) (constant (pos 0)) ≡ true
    go kind_146 = refl
    go κ = refl

pub dual_place : (κ : Kind) (p : Vector) → (sum4 (λ j. dot (dual κ j) p *ℤ (offset κ j).x) ≡ pos 2 *ℤ p.x) × (sum4 (λ j. dot (dual κ j) p *ℤ (offset κ j).y) ≡ pos 2 *ℤ p.y) × (sum4 (λ j. dot (dual κ j) p *ℤ (offset κ j).z) ≡ pos 2 *ℤ p.z)
dual_place κ p =
    let r = p.x ∷ p.y ∷ p.z ∷ [] in (
      ring r (sum4_expression (λ j. times (dot_expression (dual κ j) (variable 0) (variable 1) (variable 2)) (constant (offset κ j).x))) (times (constant (pos 2)) (variable 0)) (gox κ),
      ring r (sum4_expression (λ j. times (dot_expression (dual κ j) (variable 0) (variable 1) (variable 2)) (constant (offset κ j).y))) (times (constant (pos 2)) (variable 1)) (goy κ),
      ring r (sum4_expression (λ j. times (dot_expression (dual κ j) (variable 0) (variable 1) (variable 2)) (constant (offset κ j).z))) (times (constant (pos 2)) (variable 2)) (goz κ),
    )
  where
    gox : (κ : Kind) → is_same (sum4_expression (λ j. times (dot_expression (dual κ j) (variable 0) (variable 1) (variable 2)) (constant (offset κ j).x))) (times (constant (pos 2)) (variable 0)) ≡ true
    gox kind_146 = refl
    gox κ = refl

    goy : (κ : Kind) → is_same (sum4_expression (λ j. times (dot_expression (dual κ j) (variable 0) (variable 1) (variable 2)) (constant (offset κ j).y))) (times (constant (pos 2)) (variable 1)) ≡ true
    goy kind_146 = refl
    goy κ = refl

    goz : (κ : Kind) → is_same (sum4_expression (λ j. times (dot_expression (dual κ j) (variable 0) (variable 1) (variable 2)) (constant (offset κ j).z))) (times (constant (pos 2)) (variable 2)) ≡ true
    goz kind_146 = refl
    goz κ = refl

-- ---- contraction
-- the sizes of four weights with no sum, from the sizes of sums of one and of two
sizes : (o a b c : ℤ) (n : ℕ) → o +ℤ a +ℤ b +ℤ c ≡ pos 0 → nat_abs o ≤ n → nat_abs a ≤ n → nat_abs b ≤ n → nat_abs c ≤ n → nat_abs (a +ℤ b) ≤ n → nat_abs (a +ℤ c) ≤ n → nat_abs (b +ℤ c) ≤ n
    → nat_abs o + nat_abs a + nat_abs b + nat_abs c ≤ 2 * n
sizes o a b c n e ho ha hb hc hab hac hbc = omega (arith, ints)

-- a form whose numbers have sizes that add up to 2 at most
abbrev is_short : Vector → Bool
is_short l = ltb (nat_abs l.x + nat_abs l.y + nat_abs l.z) 3

-- each form of a kind is short, and each sum of two forms but the first
abbrev forms_are_short : Kind → Bool
forms_are_short κ =
    every_slot (λ s. is_short (dual κ s))
    && (is_short (dual κ slot_1 +ᵥ dual κ slot_2) && (is_short (dual κ slot_1 +ᵥ dual κ slot_3) && is_short (dual κ slot_2 +ᵥ dual κ slot_3)))

all_short : every_kind forms_are_short ≡ true
all_short = refl

-- a short form is at most twice the greatest coordinate
short_form : (l p : Vector) → is_short l ≡ true → nat_abs (dot l p) ≤ 2 * norm p
short_form l p h =
    let x = unsigned_abs-mul l.x p.x in
    let y = unsigned_abs-mul l.y p.y in
    let z = unsigned_abs-mul l.z p.z in
    let hx : nat_abs l.x * nat_abs p.x ≤ nat_abs l.x * norm p = mul-le-mul_left (nat_abs l.x) (omega arith) in
    let hy : nat_abs l.y * nat_abs p.y ≤ nat_abs l.y * norm p = mul-le-mul_left (nat_abs l.y) (omega arith) in
    let hz : nat_abs l.z * nat_abs p.z ≤ nat_abs l.z * norm p = mul-le-mul_left (nat_abs l.z) (omega arith) in
    let lt = ltb-true _ _ h in
    let top : (nat_abs l.x + nat_abs l.y + nat_abs l.z) * norm p ≤ 2 * norm p = mul-le-mul_right (norm p) (omega arith) in
    go (l.x *ℤ p.x) (l.y *ℤ p.y) (l.z *ℤ p.z) (nat_abs l.x * norm p) (nat_abs l.y * norm p) (nat_abs l.z * norm p) (2 * norm p) (omega arith) (omega arith) (omega arith) (omega arith)
  where
    go : (a b c : ℤ) (m n o t : ℕ) → nat_abs a ≤ m → nat_abs b ≤ n → nat_abs c ≤ o → m + n + o ≤ t → nat_abs (a +ℤ b +ℤ c) ≤ t
    go a b c m n o t ha hb hc h = omega (arith, ints)

-- twice a weight by the slot's form, where the weights add up to 0
abbrev weight : Slot → Expression
weight s = variable (number_of_slot s)

abbrev form_of_sum : Kind → Slot → Expression
form_of_sum κ s = dot_expression (dual κ s) (sum4_expression (λ j. times (weight j) (constant (offset κ j).x))) (sum4_expression (λ j. times (weight j) (constant (offset κ j).y))) (sum4_expression (λ j. times (weight j) (constant (offset κ j).z)))

abbrev by_weight : Slot → Expression
by_weight s = plus (times (constant (pos 2)) (weight s)) (negate (times (constant (first_slot_alone s)) (sum4_expression weight)))

form_is_weight : (κ : Kind) (s : Slot) → is_same (form_of_sum κ s) (by_weight s) ≡ true
form_is_weight kind_146 slot_0 = refl
form_is_weight kind_256 slot_0 = refl
form_is_weight kind_347 slot_0 = refl
form_is_weight kind_357 slot_0 = refl
form_is_weight kind_467 slot_0 = refl
form_is_weight kind_567 slot_0 = refl
form_is_weight κ s = refl

module _ (κ : Kind) (w : Slot → ℤ) (e : sum4 w ≡ pos 0) where
  abbrev point : Vector
  point = combination w (offset κ)

  twice_weight : (s : Slot) → pos 2 *ℤ w s ≡ dot (dual κ s) point
  twice_weight s = drop (pos 2 *ℤ w s) (first_slot_alone s) (dot (dual κ s) point) (ap (λ t. first_slot_alone s *ℤ t) e ∙ *ℤ_comm (first_slot_alone s) (pos 0) ∙ zero_mul (first_slot_alone s)) (go s)
    where
      go : (s : Slot) → dot (dual κ s) point ≡ pos 2 *ℤ w s +ℤ neg_ℤ (first_slot_alone s *ℤ sum4 w)
      go slot_0 = ring (w slot_0 ∷ w slot_1 ∷ w slot_2 ∷ w slot_3 ∷ []) (form_of_sum κ slot_0) (by_weight slot_0) (form_is_weight κ slot_0)
      go slot_1 = ring (w slot_0 ∷ w slot_1 ∷ w slot_2 ∷ w slot_3 ∷ []) (form_of_sum κ slot_1) (by_weight slot_1) (form_is_weight κ slot_1)
      go slot_2 = ring (w slot_0 ∷ w slot_1 ∷ w slot_2 ∷ w slot_3 ∷ []) (form_of_sum κ slot_2) (by_weight slot_2) (form_is_weight κ slot_2)
      go slot_3 = ring (w slot_0 ∷ w slot_1 ∷ w slot_2 ∷ w slot_3 ∷ []) (form_of_sum κ slot_3) (by_weight slot_3) (form_is_weight κ slot_3)

      drop : (a c f : ℤ) → c *ℤ sum4 w ≡ pos 0 → f ≡ a +ℤ neg_ℤ (c *ℤ sum4 w) → a ≡ f
      drop a c f z h = omega (arith, ints)

  half : (g f : ℤ) (n : ℕ) → pos 2 *ℤ g ≡ f → nat_abs f ≤ 2 * n → nat_abs g ≤ n
  half g f n h i = omega (arith, ints)

  one_weight : (s : Slot) → is_short (dual κ s) ≡ true → nat_abs (w s) ≤ norm point
  one_weight s h = half (w s) (dot (dual κ s) point) (norm point) (twice_weight s) (short_form (dual κ s) point h)

  two_weights : (i j : Slot) → is_short (dual κ i +ᵥ dual κ j) ≡ true → nat_abs (w i +ℤ w j) ≤ norm point
  two_weights i j h = half (w i +ℤ w j) (dot (dual κ i +ᵥ dual κ j) point) (norm point) (both (w i) (w j) (dot (dual κ i) point) (dot (dual κ j) point) (twice_weight i) (twice_weight j) ∙ sym (linear (dual κ i) (dual κ j) point)) (short_form (dual κ i +ᵥ dual κ j) point h)
    where
      both : (a b f g : ℤ) → pos 2 *ℤ a ≡ f → pos 2 *ℤ b ≡ g → pos 2 *ℤ (a +ℤ b) ≡ f +ℤ g
      both a b f g h i = omega (arith, ints)

      linear : (l m p : Vector) → dot (l +ᵥ m) p ≡ dot l p +ℤ dot m p
      linear l m p = ring (l.x ∷ l.y ∷ l.z ∷ m.x ∷ m.y ∷ m.z ∷ p.x ∷ p.y ∷ p.z ∷ [])
          (plus (plus (times (plus (variable 0) (variable 3)) (variable 6)) (times (plus (variable 1) (variable 4)) (variable 7))) (times (plus (variable 2) (variable 5)) (variable 8)))
          (plus (plus (plus (times (variable 0) (variable 6)) (times (variable 1) (variable 7))) (times (variable 2) (variable 8))) (plus (plus (times (variable 3) (variable 6)) (times (variable 4) (variable 7))) (times (variable 5) (variable 8)))) refl

  -- weights with no sum have sizes of at most twice the greatest coordinate of their weighted sum
  spread : nat_abs (w slot_0) + nat_abs (w slot_1) + nat_abs (w slot_2) + nat_abs (w slot_3) ≤ 2 * norm point
  spread =
      let h = and_parts (every_slot (λ s. is_short (dual κ s))) _ (kind_passes forms_are_short all_short κ) in
      let one = λ (s : Slot). one_weight s (slot_passes (λ s. is_short (dual κ s)) h.0 s) in
      let i = and_parts (is_short (dual κ slot_1 +ᵥ dual κ slot_2)) _ h.1 in
      let j = and_parts (is_short (dual κ slot_1 +ᵥ dual κ slot_3)) _ i.1 in
      sizes (w slot_0) (w slot_1) (w slot_2) (w slot_3) (norm point) e (one slot_0) (one slot_1) (one slot_2) (one slot_3) (two_weights slot_1 slot_2 i.0) (two_weights slot_1 slot_3 j.0) (two_weights slot_2 slot_3 j.1)

size_product : (a d : ℤ) → nat_abs d ≤ 2047 → nat_abs (a *ℤ d) ≤ 2047 * nat_abs a
size_product a d h =
    let e = unsigned_abs-mul a d in
    let f : nat_abs a * nat_abs d ≤ nat_abs a * 2047 = mul-le-mul_left (nat_abs a) h in
    omega arith

size_sum : (w d : Slot → ℤ) → ((s : Slot) → nat_abs (d s) ≤ 2047) → nat_abs (sum4 (λ j. w j *ℤ d j)) ≤ 2047 * (nat_abs (w slot_0) + nat_abs (w slot_1) + nat_abs (w slot_2) + nat_abs (w slot_3))
size_sum w d h =
    let f0 = size_product (w slot_0) (d slot_0) (h slot_0) in
    let f1 = size_product (w slot_1) (d slot_1) (h slot_1) in
    let f2 = size_product (w slot_2) (d slot_2) (h slot_2) in
    let f3 = size_product (w slot_3) (d slot_3) (h slot_3) in
    go (w slot_0 *ℤ d slot_0) (w slot_1 *ℤ d slot_1) (w slot_2 *ℤ d slot_2) (w slot_3 *ℤ d slot_3) _ _ _ _ f0 f1 f2 f3
  where
    go : (a b c e : ℤ) (m n o p : ℕ) → nat_abs a ≤ 2047 * m → nat_abs b ≤ 2047 * n → nat_abs c ≤ 2047 * o → nat_abs e ≤ 2047 * p → nat_abs (a +ℤ b +ℤ c +ℤ e) ≤ 2047 * (m + n + o + p)
    go a b c e m n o p h0 h1 h2 h3 = omega (arith, ints)

-- the displacement contracts
pub contraction : (κ : Kind) (w : Slot → ℤ) (d : Slot → Vector) → sum4 w ≡ pos 0 → ((s : Slot) → norm (d s) ≤ 2047) → norm (combination w d) ≤ 4094 * norm (combination w (offset κ))
contraction κ w d e h =
    let s = spread κ w e in
    let x = size_sum w (λ s. (d s).x) (λ s. let i = h s in omega arith) in
    let y = size_sum w (λ s. (d s).y) (λ s. let i = h s in omega arith) in
    let z = size_sum w (λ s. (d s).z) (λ s. let i = h s in omega arith) in
    omega arith
