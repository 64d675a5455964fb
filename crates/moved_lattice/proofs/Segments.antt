-- Any two points contract, by induction over a list of the planes between them.
use Rattle.std.proofs.Common.{◌≡◌, ℕ, ◌+◌, ◌*◌, ◌<◌, ◌≤◌, List, [], ◌∷◌, refl, sym, ap, subst, ◌∙◌, arith, inl, inr, ◌⊎◌}
use Rattle.std.proofs.Math.IntN.{ℤ, pos, ◌+ℤ◌, ◌*ℤ◌, neg_ℤ, nat_abs}
use Rattle.std.proofs.Math.Nat.{mul-le-mul_right, le_of_mul-le-mul_left}
use Rattle.std.proofs.lemmas.Int.{ints}
use lib.Signed.{◌<ℤ◌, ◌≤ℤ◌}
use borrow.Author.Differences.{at_most_in}
use Rattle.exact.specs.Polynomials.{variable, constant, plus, times, negate}
use Rattle.exact.proofs.Ring.{ring}
use Rattle.lattice_laws.specs.Ascending.{Has}
use Rattle.lattice_laws.specs.Vectors.{Vector, vector, ◌+ᵥ◌, ◌-ᵥ◌, ◌*ᵥ◌, norm}
use Rattle.lattice_laws.specs.Kinds.{Kind, Slot}
use Rattle.moved_lattice.specs.Duals.{dual}
use Rattle.definitions.specs.Vectors.{dot}
use Rattle.moved_lattice.specs.WeightedSums.{AreSmall, IsLattice, vertex_of, Holds, scaled_by}
use Rattle.moved_lattice.proofs.PointForms.{weights, holds_by_forms}
use Rattle.moved_lattice.proofs.Cells.{Located}
use Rattle.moved_lattice.proofs.Locate.{locate}
use Rattle.exact.proofs.IntegerOrder.{times_monotone, times_cancel, less_or_at_most, less_not_at_most}
use Rattle.moved_lattice.proofs.Norms.{norm_scale, norm_sum, norm_flip}
use Rattle.moved_lattice.proofs.ShortSegments.{Separates, Between, Close, moved_by, holds_scaled, combination_scaled, norm_of_difference, base_case}

-- the plane on which a slot's form is twice a number
pub record Plane : Type 0 where
  pub kind : Kind
  pub slot : Slot
  pub at : ℤ

abbrev pub LiesBetween : Plane → Vector → Vector → ℕ → Type 0
LiesBetween x p q n = Between x.kind x.slot x.at p q n

-- ---- numbers
expand : (a b t : ℤ) → (pos 2 *ℤ (a +ℤ b)) *ℤ t ≡ pos 2 *ℤ (b *ℤ t +ℤ a *ℤ t)
expand a b t = ring (a ∷ b ∷ t ∷ []) (times (times (constant (pos 2)) (plus (variable 0) (variable 1))) (variable 2)) (times (constant (pos 2)) (plus (times (variable 1) (variable 2)) (times (variable 0) (variable 2)))) refl

-- the weighted middle lies between
from_left : (a b : ℕ) (x y t : ℤ) → (pos (2 * (a + b)) *ℤ x) <ℤ (pos (2 * (a + b)) *ℤ t) → (pos (2 * (a + b)) *ℤ t) <ℤ (pos 2 *ℤ (pos b *ℤ x +ℤ pos a *ℤ y)) → (x <ℤ t) × (t <ℤ y)
from_left a b x y t h i = (lt, go (less_or_at_most t y))
  where
    lt : x <ℤ t
    lt = times_cancel (2 * (a + b)) x t h

    le : x ≤ℤ t
    le = let h' = times_cancel (2 * (a + b)) x t h in at_most_in _ _ (omega (arith, ints))

    sum : (bx ay bt at : ℤ) → bx ≤ℤ bt → ay ≤ℤ at → (bx +ℤ ay) ≤ℤ (bt +ℤ at)
    sum bx ay bt at h i = at_most_in _ _ (omega (arith, ints))

    go : (t <ℤ y) ⊎ (y ≤ℤ t) → t <ℤ y
    go (inl j) = j
    go (inr j) = less_not_at_most _ _ (subst (λ (e : ℤ). e <ℤ (pos 2 *ℤ (pos b *ℤ x +ℤ pos a *ℤ y))) (expand (pos a) (pos b) t) i)
        (times_monotone 2 _ _ (sum (pos b *ℤ x) (pos a *ℤ y) (pos b *ℤ t) (pos a *ℤ t) (times_monotone b x t le) (times_monotone a y t j)))

from_right : (a b : ℕ) (x y t : ℤ) → (pos 2 *ℤ (pos b *ℤ x +ℤ pos a *ℤ y)) <ℤ (pos (2 * (a + b)) *ℤ t) → (pos (2 * (a + b)) *ℤ t) <ℤ (pos (2 * (a + b)) *ℤ x) → (y <ℤ t) × (t <ℤ x)
from_right a b x y t h i = (go (less_or_at_most y t), times_cancel (2 * (a + b)) t x i)
  where
    le : t ≤ℤ x
    le = let h' = times_cancel (2 * (a + b)) t x i in at_most_in _ _ (omega (arith, ints))

    sum : (bx ay bt at : ℤ) → bt ≤ℤ bx → at ≤ℤ ay → (bt +ℤ at) ≤ℤ (bx +ℤ ay)
    sum bx ay bt at h i = at_most_in _ _ (omega (arith, ints))

    go : (y <ℤ t) ⊎ (t ≤ℤ y) → y <ℤ t
    go (inl j) = j
    go (inr j) = less_not_at_most _ _ (subst (λ (e : ℤ). (pos 2 *ℤ (pos b *ℤ x +ℤ pos a *ℤ y)) <ℤ e) (expand (pos a) (pos b) t) h)
        (times_monotone 2 _ _ (sum (pos b *ℤ x) (pos a *ℤ y) (pos b *ℤ t) (pos a *ℤ t) (times_monotone b t x le) (times_monotone a t y j)))

-- ---- forms of the scaled points
form_scale : (l p : Vector) (c : ℤ) → dot l (c *ᵥ p) ≡ c *ℤ dot l p
form_scale l p c = ring (l.x ∷ l.y ∷ l.z ∷ p.x ∷ p.y ∷ p.z ∷ c ∷ []) (plus (plus (times (variable 0) (times (variable 6) (variable 3))) (times (variable 1) (times (variable 6) (variable 4)))) (times (variable 2) (times (variable 6) (variable 5))))
    (times (variable 6) (plus (plus (times (variable 0) (variable 3)) (times (variable 1) (variable 4))) (times (variable 2) (variable 5)))) refl

abbrev mid : ℕ → ℕ → Vector → Vector → Vector
mid a b p q = pos b *ᵥ p +ᵥ pos a *ᵥ q

form_mid : (l p q : Vector) (a b : ℤ) → dot l (pos 2 *ᵥ (b *ᵥ p +ᵥ a *ᵥ q)) ≡ pos 2 *ℤ (b *ℤ dot l p +ℤ a *ℤ dot l q)
form_mid l p q a b = ring (l.x ∷ l.y ∷ l.z ∷ p.x ∷ p.y ∷ p.z ∷ q.x ∷ q.y ∷ q.z ∷ a ∷ b ∷ [])
    (plus (plus (times (variable 0) (times (constant (pos 2)) (plus (times (variable 10) (variable 3)) (times (variable 9) (variable 6))))) (times (variable 1) (times (constant (pos 2)) (plus (times (variable 10) (variable 4)) (times (variable 9) (variable 7)))))) (times (variable 2) (times (constant (pos 2)) (plus (times (variable 10) (variable 5)) (times (variable 9) (variable 8))))))
    (times (constant (pos 2)) (plus (times (variable 10) (plus (plus (times (variable 0) (variable 3)) (times (variable 1) (variable 4))) (times (variable 2) (variable 5)))) (times (variable 9) (plus (plus (times (variable 0) (variable 6)) (times (variable 1) (variable 7))) (times (variable 2) (variable 8)))))) refl

level : (a b n m : ℤ) → (pos 2 *ℤ (pos 2 *ℤ ((a +ℤ b) *ℤ n))) *ℤ m ≡ (pos 2 *ℤ (a +ℤ b)) *ℤ ((pos 2 *ℤ n) *ℤ m)
level a b n m = ring (a ∷ b ∷ n ∷ m ∷ []) (times (times (constant (pos 2)) (times (constant (pos 2)) (times (plus (variable 0) (variable 1)) (variable 2)))) (variable 3)) (times (times (constant (pos 2)) (plus (variable 0) (variable 1))) (times (times (constant (pos 2)) (variable 2)) (variable 3))) refl

abbrev SeparatedBy : Vector → ℤ → Vector → Vector → ℕ → Type 0
SeparatedBy l m p q n = (dot l p <ℤ (pos (2 * n) *ℤ m)) × ((pos (2 * n) *ℤ m) <ℤ dot l q)

-- a plane between the first end and the middle is between the ends
left_sep : (l : Vector) (m : ℤ) (a b n : ℕ) (p q : Vector) → SeparatedBy l m (pos (2 * (a + b)) *ᵥ p) (pos 2 *ᵥ mid a b p q) (2 * ((a + b) * n)) → SeparatedBy l m p q n
left_sep l m a b n p q h = from_left a b (dot l p) (dot l q) (pos (2 * n) *ℤ m)
    (subst (λ (t : ℤ). (pos (2 * (a + b)) *ℤ dot l p) <ℤ t) (level (pos a) (pos b) (pos n) m) (subst (λ (t : ℤ). t <ℤ (pos (2 * (2 * ((a + b) * n))) *ℤ m)) (form_scale l p (pos (2 * (a + b)))) h.0))
    (subst (λ (t : ℤ). t <ℤ (pos 2 *ℤ (pos b *ℤ dot l p +ℤ pos a *ℤ dot l q))) (level (pos a) (pos b) (pos n) m) (subst (λ (t : ℤ). (pos (2 * (2 * ((a + b) * n))) *ℤ m) <ℤ t) (form_mid l p q (pos a) (pos b)) h.1))

right_sep : (l : Vector) (m : ℤ) (a b n : ℕ) (p q : Vector) → SeparatedBy l m (pos 2 *ᵥ mid a b p q) (pos (2 * (a + b)) *ᵥ p) (2 * ((a + b) * n)) → SeparatedBy l m q p n
right_sep l m a b n p q h = from_right a b (dot l p) (dot l q) (pos (2 * n) *ℤ m)
    (subst (λ (t : ℤ). (pos 2 *ℤ (pos b *ℤ dot l p +ℤ pos a *ℤ dot l q)) <ℤ t) (level (pos a) (pos b) (pos n) m) (subst (λ (t : ℤ). t <ℤ (pos (2 * (2 * ((a + b) * n))) *ℤ m)) (form_mid l p q (pos a) (pos b)) h.0))
    (subst (λ (t : ℤ). t <ℤ (pos (2 * (a + b)) *ℤ dot l p)) (level (pos a) (pos b) (pos n) m) (subst (λ (t : ℤ). (pos (2 * (2 * ((a + b) * n))) *ℤ m) <ℤ t) (form_scale l p (pos (2 * (a + b)))) h.1))

near : (a b n : ℕ) (p q : Vector) (x : Plane) → LiesBetween x (pos (2 * (a + b)) *ᵥ p) (pos 2 *ᵥ mid a b p q) (2 * ((a + b) * n)) → LiesBetween x p q n
near a b n p q x (inl h) = inl (left_sep (dual x.kind x.slot) x.at a b n p q h)
near a b n p q x (inr h) = inr (right_sep (dual x.kind x.slot) x.at a b n p q h)

-- the middle from the other end
mid_flip : (a b : ℕ) (p q : Vector) → mid a b p q ≡ mid b a q p
mid_flip a b p q = λ i. vector (go (pos b *ℤ p.x) (pos a *ℤ q.x) i) (go (pos b *ℤ p.y) (pos a *ℤ q.y) i) (go (pos b *ℤ p.z) (pos a *ℤ q.z) i)
  where
    go : (x y : ℤ) → x +ℤ y ≡ y +ℤ x
    go x y = omega (arith, ints)

flip : (x : Plane) (p q : Vector) (n : ℕ) → LiesBetween x p q n → LiesBetween x q p n
flip x p q n (inl h) = inr h
flip x p q n (inr h) = inl h

far : (a b n : ℕ) (p q : Vector) (x : Plane) → LiesBetween x (pos 2 *ᵥ mid a b p q) (pos (2 * (a + b)) *ᵥ q) (2 * ((a + b) * n)) → LiesBetween x p q n
far a b n p q x h =
    let c : a + b ≡ b + a = omega arith in
    let f : LiesBetween x (pos 2 *ᵥ mid b a q p) (pos (2 * (b + a)) *ᵥ q) (2 * ((b + a) * n)) = change x (λ i. pos 2 *ᵥ mid_flip a b p q i) c h in
    flip x q p n (near b a n q p x (flip x (pos 2 *ᵥ mid b a q p) (pos (2 * (b + a)) *ᵥ q) (2 * ((b + a) * n)) f))
  where
    change : (x : Plane) {u w : Vector} → u ≡ w → {c e : ℕ} → c ≡ e → LiesBetween x u (pos (2 * c) *ᵥ q) (2 * (c * n)) → LiesBetween x w (pos (2 * e) *ᵥ q) (2 * (e * n))
    change x {u} {w} p {c} {e} r h = subst (λ (t : ℕ). LiesBetween x w (pos (2 * t) *ᵥ q) (2 * (t * n))) r (subst (λ (t : Vector). LiesBetween x t (pos (2 * c) *ᵥ q) (2 * (c * n))) p h)

-- the plane through the middle is on neither side
on_plane : (l : Vector) (m : ℤ) (a b n : ℕ) (p q : Vector) → pos (2 * n) *ℤ m ≡ dot l p +ℤ pos a → dot l q ≡ pos (2 * n) *ℤ m +ℤ pos b → dot l (pos 2 *ᵥ mid a b p q) ≡ pos (2 * (2 * ((a + b) * n))) *ℤ m
on_plane l m a b n p q e f = form_mid l p q (pos a) (pos b) ∙ go (dot l p) (dot l q) (pos (2 * n) *ℤ m) e f ∙ sym (level (pos a) (pos b) (pos n) m)
  where
    from : (x y t : ℤ) → t ≡ x +ℤ pos a → x ≡ t +ℤ neg_ℤ (pos a)
    from x y t e = omega (arith, ints)

    go : (x y t : ℤ) → t ≡ x +ℤ pos a → y ≡ t +ℤ pos b → pos 2 *ℤ (pos b *ℤ x +ℤ pos a *ℤ y) ≡ pos (2 * (a + b)) *ℤ t
    go x y t e f = (λ i. pos 2 *ℤ (pos b *ℤ from x y t e i +ℤ pos a *ℤ f i)) ∙
        ring (t ∷ pos a ∷ pos b ∷ []) (times (constant (pos 2)) (plus (times (variable 2) (plus (variable 0) (negate (variable 1)))) (times (variable 1) (plus (variable 0) (variable 2))))) (times (times (constant (pos 2)) (plus (variable 1) (variable 2))) (variable 0)) refl

irrefl : {X : Type 0} (x y : ℤ) → x <ℤ y → x ≡ y → X
irrefl x y h e = absurd (omega (arith, ints))

not_at_mid : (x : Plane) (a b n : ℕ) (p q r : Vector) → dot (dual x.kind x.slot) (pos 2 *ᵥ mid a b p q) ≡ pos (2 * (2 * ((a + b) * n))) *ℤ x.at → ¬ (LiesBetween x r (pos 2 *ᵥ mid a b p q) (2 * ((a + b) * n)))
not_at_mid x a b n p q r e (inl h) = irrefl _ _ h.1 (sym e)
not_at_mid x a b n p q r e (inr h) = irrefl _ _ h.0 e

-- ---- distances
mid_left : (a b : ℕ) (p q : Vector) → norm (pos (2 * (a + b)) *ᵥ p -ᵥ pos 2 *ᵥ mid a b p q) ≡ 2 * a * norm (p -ᵥ q)
mid_left a b p q = ap norm (λ i. vector (go (pos a) (pos b) p.x q.x i) (go (pos a) (pos b) p.y q.y i) (go (pos a) (pos b) p.z q.z i)) ∙ norm_scale (2 * a) (p -ᵥ q)
  where
    go : (a b x y : ℤ) → (pos 2 *ℤ (a +ℤ b)) *ℤ x +ℤ neg_ℤ (pos 2 *ℤ (b *ℤ x +ℤ a *ℤ y)) ≡ (pos 2 *ℤ a) *ℤ (x +ℤ neg_ℤ y)
    go a b x y = ring (a ∷ b ∷ x ∷ y ∷ []) (plus (times (times (constant (pos 2)) (plus (variable 0) (variable 1))) (variable 2)) (negate (times (constant (pos 2)) (plus (times (variable 1) (variable 2)) (times (variable 0) (variable 3)))))) (times (times (constant (pos 2)) (variable 0)) (plus (variable 2) (negate (variable 3)))) refl

mid_right : (a b : ℕ) (p q : Vector) → norm (pos 2 *ᵥ mid a b p q -ᵥ pos (2 * (a + b)) *ᵥ q) ≡ 2 * b * norm (p -ᵥ q)
mid_right a b p q = ap norm (λ i. vector (go (pos a) (pos b) p.x q.x i) (go (pos a) (pos b) p.y q.y i) (go (pos a) (pos b) p.z q.z i)) ∙ norm_scale (2 * b) (p -ᵥ q)
  where
    go : (a b x y : ℤ) → pos 2 *ℤ (b *ℤ x +ℤ a *ℤ y) +ℤ neg_ℤ ((pos 2 *ℤ (a +ℤ b)) *ℤ y) ≡ (pos 2 *ℤ b) *ℤ (x +ℤ neg_ℤ y)
    go a b x y = ring (a ∷ b ∷ x ∷ y ∷ []) (plus (times (constant (pos 2)) (plus (times (variable 1) (variable 2)) (times (variable 0) (variable 3)))) (negate (times (times (constant (pos 2)) (plus (variable 0) (variable 1))) (variable 3)))) (times (times (constant (pos 2)) (variable 1)) (plus (variable 2) (negate (variable 3)))) refl

-- the two parts add up
join : (a b : ℕ) (p q u u' m : Vector) → 0 < a + b
    → Close (pos (2 * (a + b)) *ᵥ p) (pos (2 * (a + b)) *ᵥ u) (pos 2 *ᵥ mid a b p q) m
    → Close (pos 2 *ᵥ mid a b p q) m (pos (2 * (a + b)) *ᵥ q) (pos (2 * (a + b)) *ᵥ u') → Close p u q u'
join a b p q u u' m h i j = go _ _ _ _ _ _ _ (norm_of_difference (2 * (a + b)) u u') (norm_sum (pos (2 * (a + b)) *ᵥ u) m (pos (2 * (a + b)) *ᵥ u')) i j (mid_left a b p q) (mid_right a b p q)
  where
    go : (r s t x y c e : ℕ) → r ≡ 2 * (a + b) * c → r ≤ s + t → s ≤ 4094 * x → t ≤ 4094 * y → x ≡ 2 * a * e → y ≡ 2 * b * e → c ≤ 4094 * e
    go r s t x y c e er hr hs ht ex ey =
        let f : 2 * (a + b) * c ≤ 2 * (a + b) * (4094 * e) = omega arith in
        le_of_mul-le-mul_left f (omega arith)

gap : (x y : ℤ) → x <ℤ y → (a : ℕ) × (0 < a) × (y ≡ x +ℤ pos a)
gap x y h = (nat_abs (y +ℤ neg_ℤ x), omega (arith, ints), go x y h)
  where
    go : (x y : ℤ) → x <ℤ y → y ≡ x +ℤ pos (nat_abs (y +ℤ neg_ℤ x))
    go x y h = omega (arith, ints)

other : (p q u u' : Vector) → Close q u' p u → Close p u q u'
other p q u u' h = go _ _ _ _ (norm_flip u u') (norm_flip p q) h
  where
    go : (a b c e : ℕ) → a ≡ c → b ≡ e → c ≤ 4094 * e → a ≤ 4094 * b
    go a b c e f g h = omega arith

module _ (d : Vector → Vector) (small : AreSmall d) where
  -- the displacement contracts between any two points between which the listed planes alone lie
  abbrev ContractsOver : List Plane → Type 0
  ContractsOver l = (b : Vector) (κ : Kind) (w : Slot → ℕ) (b' : Vector) (κ' : Kind) (w' : Slot → ℕ) (p q : Vector) (n : ℕ) → 0 < n → IsLattice b → IsLattice b' → Holds b κ w p n → Holds b' κ' w' q n
      → ((x : Plane) → LiesBetween x p q n → Has x l) → Close p (moved_by d b κ w) q (moved_by d b' κ' w')

  drop : (x y : Plane) (l : List Plane) (p q : Vector) (n : ℕ) → LiesBetween x p q n → ¬ (LiesBetween y p q n) → Has x (y ∷ l) → Has x l
  drop x y l p q n h never (inl e) = absurd (never (subst (λ (t : Plane). LiesBetween t p q n) (sym e) h))
  drop x y l p q n h never (inr i) = i

  -- a plane of the list lies between
  crossing : (y : Plane) (l : List Plane) → ContractsOver l → (b : Vector) (κ : Kind) (w : Slot → ℕ) (b' : Vector) (κ' : Kind) (w' : Slot → ℕ) (p q : Vector) (n : ℕ) → 0 < n → IsLattice b → IsLattice b' → Holds b κ w p n → Holds b' κ' w' q n
      → ((x : Plane) → LiesBetween x p q n → Has x (y ∷ l)) → Separates y.kind y.slot y.at p q n → Close p (moved_by d b κ w) q (moved_by d b' κ' w')
  crossing y l ih b κ w b' κ' w' p q n pos_n lb lb' h h' planes sep = go (gap _ _ sep.0) (gap _ _ sep.1)
    where
      halfway : (a e : ℕ) → 0 < a → pos (2 * n) *ℤ y.at ≡ dot (dual y.kind y.slot) p +ℤ pos a → dot (dual y.kind y.slot) q ≡ pos (2 * n) *ℤ y.at +ℤ pos e → 0 < (a + e) * n → Located (mid a e p q) ((a + e) * n) → Close p (moved_by d b κ w) q (moved_by d b' κ' w')
      halfway a e pa fa fe pos_m t =
          let m = weights t.kind t.at (mid a e p q) ((a + e) * n) in
          let c = 2 * (a + e) in
          let hz = holds_by_forms t.kind t.at (mid a e p q) ((a + e) * n) t.forms in
          let size : c * n ≡ 2 * ((a + e) * n) = omega arith in
          let hp = subst (λ (r : ℕ). Holds b κ (scaled_by c w) (pos c *ᵥ p) r) size (holds_scaled c b κ w p n h) in
          let hq = subst (λ (r : ℕ). Holds b' κ' (scaled_by c w') (pos c *ᵥ q) r) size (holds_scaled c b' κ' w' q n h') in
          let on = on_plane (dual y.kind y.slot) y.at a e n p q fa fe in
          let left = ih b κ (scaled_by c w) t.at t.kind m (pos c *ᵥ p) (pos 2 *ᵥ mid a e p q) (2 * ((a + e) * n)) (omega arith) lb t.lattice hp hz
          (λ x i. drop x y l (pos c *ᵥ p) (pos 2 *ᵥ mid a e p q) (2 * ((a + e) * n)) i (not_at_mid y a e n p q (pos c *ᵥ p) on) (planes x (near a e n p q x i))) in
          let right = ih t.at t.kind m b' κ' (scaled_by c w') (pos 2 *ᵥ mid a e p q) (pos c *ᵥ q) (2 * ((a + e) * n)) (omega arith) t.lattice lb' hz hq
          (λ x i. drop x y l (pos 2 *ᵥ mid a e p q) (pos c *ᵥ q) (2 * ((a + e) * n)) i (λ f. not_at_mid y a e n p q (pos c *ᵥ q) on (flip y (pos 2 *ᵥ mid a e p q) (pos c *ᵥ q) (2 * ((a + e) * n)) f)) (planes x (far a e n p q x i))) in
          join a e p q (moved_by d b κ w) (moved_by d b' κ' w') (moved_by d t.at t.kind m) (omega arith)
          (subst (λ (u : Vector). Close (pos c *ᵥ p) u (pos 2 *ᵥ mid a e p q) (moved_by d t.at t.kind m)) (combination_scaled c w (λ s. d (vertex_of b κ s))) left)
          (subst (λ (u : Vector). Close (pos 2 *ᵥ mid a e p q) (moved_by d t.at t.kind m) (pos c *ᵥ q) u) (combination_scaled c w' (λ s. d (vertex_of b' κ' s))) right)

      positive : (a e : ℕ) → 0 < a → 0 < (a + e) * n
      positive a e h =
          let f : 1 * n ≤ (a + e) * n = mul-le-mul_right n (omega arith) in
          omega arith

      go : (a : ℕ) × (0 < a) × (pos (2 * n) *ℤ y.at ≡ dot (dual y.kind y.slot) p +ℤ pos a) → (a : ℕ) × (0 < a) × (dot (dual y.kind y.slot) q ≡ pos (2 * n) *ℤ y.at +ℤ pos a) → Close p (moved_by d b κ w) q (moved_by d b' κ' w')
      go ga ge = halfway ga.0 ge.0 ga.1 ga.2 ge.2 (positive ga.0 ge.0 ga.1) (locate (mid ga.0 ge.0 p q) ((ga.0 + ge.0) * n) (positive ga.0 ge.0 ga.1))

  decide : (x : Plane) (p q : Vector) (n : ℕ) → Separates x.kind x.slot x.at p q n ⊎ (Separates x.kind x.slot x.at q p n ⊎ (¬ (LiesBetween x p q n)))
  decide x p q n = go (less_or_at_most (dot (dual x.kind x.slot) p) (pos (2 * n) *ℤ x.at)) (less_or_at_most (pos (2 * n) *ℤ x.at) (dot (dual x.kind x.slot) q)) (less_or_at_most (dot (dual x.kind x.slot) q) (pos (2 * n) *ℤ x.at)) (less_or_at_most (pos (2 * n) *ℤ x.at) (dot (dual x.kind x.slot) p))
    where
      never : {A B C D : Type 0} → ¬ (A × B) → ¬ (C × D) → ¬ ((A × B) ⊎ (C × D))
      never f g (inl h) = f h
      never f g (inr h) = g h

      go : (dot (dual x.kind x.slot) p <ℤ (pos (2 * n) *ℤ x.at)) ⊎ ((pos (2 * n) *ℤ x.at) ≤ℤ dot (dual x.kind x.slot) p) → ((pos (2 * n) *ℤ x.at) <ℤ dot (dual x.kind x.slot) q) ⊎ (dot (dual x.kind x.slot) q ≤ℤ (pos (2 * n) *ℤ x.at))
          → (dot (dual x.kind x.slot) q <ℤ (pos (2 * n) *ℤ x.at)) ⊎ ((pos (2 * n) *ℤ x.at) ≤ℤ dot (dual x.kind x.slot) q) → ((pos (2 * n) *ℤ x.at) <ℤ dot (dual x.kind x.slot) p) ⊎ (dot (dual x.kind x.slot) p ≤ℤ (pos (2 * n) *ℤ x.at))
          → Separates x.kind x.slot x.at p q n ⊎ (Separates x.kind x.slot x.at q p n ⊎ (¬ (LiesBetween x p q n)))
      go (inl a) (inl b) c e = inl (a, b)
      go a b (inl c) (inl e) = inr (inl (c, e))
      go (inl a) (inr b) (inr c) e = inr (inr (never (λ h. less_not_at_most _ _ h.1 b) (λ h. less_not_at_most _ _ h.0 c)))
      go (inl a) (inr b) (inl c) (inr e) = inr (inr (never (λ h. less_not_at_most _ _ h.1 b) (λ h. less_not_at_most _ _ h.1 e)))
      go (inr a) b (inr c) e = inr (inr (never (λ h. less_not_at_most _ _ h.0 a) (λ h. less_not_at_most _ _ h.0 c)))
      go (inr a) b (inl c) (inr e) = inr (inr (never (λ h. less_not_at_most _ _ h.0 a) (λ h. less_not_at_most _ _ h.1 e)))

  -- any two points contract: cut the segment at a plane between them, one plane of the list after another
  pub contracts : (l : List Plane) → ContractsOver l
  contracts [] b κ w b' κ' w' p q n pos_n lb lb' h h' planes = base_case d small b κ w b' κ' w' p q n pos_n lb lb' h h' (λ κ s m i. planes record { kind = κ; slot = s; at = m } i)
  contracts (y ∷ l) b κ w b' κ' w' p q n pos_n lb lb' h h' planes = go (contracts l) (decide y p q n)
    where
      go : ContractsOver l → Separates y.kind y.slot y.at p q n ⊎ (Separates y.kind y.slot y.at q p n ⊎ (¬ (LiesBetween y p q n))) → Close p (moved_by d b κ w) q (moved_by d b' κ' w')
      go ih (inl s) = crossing y l ih b κ w b' κ' w' p q n pos_n lb lb' h h' planes s
      go ih (inr (inl s)) = other p q (moved_by d b κ w) (moved_by d b' κ' w') (crossing y l ih b' κ' w' b κ w q p n pos_n lb' lb h' h (λ x i. planes x (flip x q p n i)) s)
      go ih (inr (inr never)) = ih b κ w b' κ' w' p q n pos_n lb lb' h h' (λ x i. drop x y l p q n i never (planes x i))
