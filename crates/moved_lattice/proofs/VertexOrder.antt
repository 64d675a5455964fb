-- The vertices of a lattice tetrahedron of each kind stand in the order of their slots.
use Rattle.std.proofs.Common.{◌≡◌, ℕ, zero, suc, ◌+◌, ◌<◌, Bool, true, not, ◌&&◌, ◌||◌, ltb, refl, sym, ap, arith, inl, inr, ◌⊎◌}
use Rattle.std.specs.Prelude.{nat_lt}
use Rattle.std.proofs.lemmas.Bool.{ltb-true, lt-ltb, and_parts, or_cases}
use Rattle.std.proofs.Math.IntN.{ℤ, ◌+ℤ◌}
use Rattle.std.proofs.lemmas.Int.{ints}
use lib.Signed.{◌<ℤ◌}
use borrow.Author.Differences.{up, down, below_in}
use Rattle.lattice_laws.specs.Vectors.{Vector, ◌+ᵥ◌, same_integer}
use Rattle.lattice_laws.specs.Kinds.{Kind, Slot, slot_0, slot_1, slot_2, slot_3, offset, slot_of, number_of_slot}
use Rattle.moved_lattice.specs.WeightedSums.{vertex_of}
use Rattle.lattice_laws.specs.FiniteTests.{below}
use Rattle.lattice_laws.proofs.Lists.{compared}
use Rattle.lattice_laws.proofs.Booleans.{implied}
use Rattle.lattice_laws.proofs.FiniteTests.{below_at}
use Rattle.lattice_laws.proofs.SameVectors.{same_integer-true}
use Rattle.moved_lattice.proofs.EveryKind.{every_kind, kind_passes}

-- slots and their numbers
pub slot_of-number : (s : Slot) → (slot_of (number_of_slot s) ≡ s) × (number_of_slot s < 4)
slot_of-number slot_0 = (refl, omega arith)
slot_of-number slot_1 = (refl, omega arith)
slot_of-number slot_2 = (refl, omega arith)
slot_of-number slot_3 = (refl, omega arith)

pub number_of_slot-of : (s : ℕ) → s < 4 → number_of_slot (slot_of s) ≡ s
number_of_slot-of zero h = refl
number_of_slot-of (suc zero) h = refl
number_of_slot-of (suc (suc zero)) h = refl
number_of_slot-of (suc (suc (suc zero))) h = refl
number_of_slot-of (suc (suc (suc (suc s)))) h = absurd (omega arith)

-- ---- vectors by z, then y, then x
-- p stands before q
abbrev pub ComesBefore : Vector → Vector → Type 0
ComesBefore p q = (p.z <ℤ q.z) ⊎ ((p.z ≡ q.z) × ((p.y <ℤ q.y) ⊎ ((p.y ≡ q.y) × (p.x <ℤ q.x))))

not_before_itself : (p q : Vector) → p ≡ q → ComesBefore p q → ⊥
not_before_itself p q e (inl h) = let f = ap (λ (v : Vector). v.z) e in absurd (omega (arith, ints))
not_before_itself p q e (inr (h)) = go h.1
  where
    go : (p.y <ℤ q.y) ⊎ ((p.y ≡ q.y) × (p.x <ℤ q.x)) → ⊥
    go (inl i) = let f = ap (λ (v : Vector). v.y) e in absurd (omega (arith, ints))
    go (inr i) = let f = ap (λ (v : Vector). v.x) e in let g = i.1 in absurd (omega (arith, ints))

not_before_both : (p q : Vector) → ComesBefore p q → ComesBefore q p → ⊥
not_before_both p q (inl h) (inl i) = absurd (omega (arith, ints))
not_before_both p q (inl h) (inr i) = let a = i.0 in absurd (omega (arith, ints))
not_before_both p q (inr h) (inl i) = let a = h.0 in absurd (omega (arith, ints))
not_before_both p q (inr h) (inr i) = go h.1 i.1
  where
    go : (p.y <ℤ q.y) ⊎ ((p.y ≡ q.y) × (p.x <ℤ q.x)) → (q.y <ℤ p.y) ⊎ ((q.y ≡ p.y) × (q.x <ℤ p.x)) → ⊥
    go (inl a) (inl b) = absurd (omega (arith, ints))
    go (inl a) (inr b) = let c = b.0 in absurd (omega (arith, ints))
    go (inr a) (inl b) = let c = a.0 in absurd (omega (arith, ints))
    go (inr a) (inr b) = let c = a.1 in let d = b.1 in absurd (omega (arith, ints))

shift_lt : (b x y : ℤ) → x <ℤ y → (b +ℤ x) <ℤ (b +ℤ y)
shift_lt b x y h = below_in _ _ (omega (arith, ints))

before_shifted : (b p q : Vector) → ComesBefore p q → ComesBefore (b +ᵥ p) (b +ᵥ q)
before_shifted b p q (inl h) = inl (shift_lt b.z p.z q.z h)
before_shifted b p q (inr h) = inr (ap (λ t. b.z +ℤ t) h.0, go h.1)
  where
    go : (p.y <ℤ q.y) ⊎ ((p.y ≡ q.y) × (p.x <ℤ q.x)) → ((b.y +ℤ p.y) <ℤ (b.y +ℤ q.y)) ⊎ (((b.y +ℤ p.y) ≡ (b.y +ℤ q.y)) × ((b.x +ℤ p.x) <ℤ (b.x +ℤ q.x)))
    go (inl i) = inl (shift_lt b.y p.y q.y i)
    go (inr i) = inr (ap (λ t. b.y +ℤ t) i.0, shift_lt b.x p.x q.x i.1)

-- a test of the order, and what it says
abbrev is_less : ℤ → ℤ → Bool
is_less a b = ltb (up a + down b) (up b + down a)

abbrev comes_before : Vector → Vector → Bool
comes_before p q = is_less p.z q.z || (same_integer p.z q.z && (is_less p.y q.y || (same_integer p.y q.y && is_less p.x q.x)))

less_from_test : (a b : ℤ) → is_less a b ≡ true → a <ℤ b
less_from_test a b h = below_in a b (ltb-true (up a + down b) (up b + down a) h)

before_from_test : (p q : Vector) → comes_before p q ≡ true → ComesBefore p q
before_from_test p q h = elim (or_cases (is_less p.z q.z) _ h) [
  | inl e ↦ inl (less_from_test p.z q.z e)
  | inr e ↦
      (let s = and_parts (same_integer p.z q.z) _ e in
      inr (
        same_integer-true p.z q.z s.0,
        elim (or_cases (is_less p.y q.y) _ s.1) [
          | inl f ↦ inl (less_from_test p.y q.y f)
          | inr f ↦ (let t = and_parts (same_integer p.y q.y) _ f in inr (same_integer-true p.y q.y t.0, less_from_test p.x q.x t.1))
        ],
      ))
]

-- the vertices of each kind rise
abbrev rises : Kind → ℕ → ℕ → Bool
rises κ a b = not (nat_lt a b) || comes_before (offset κ (slot_of a)) (offset κ (slot_of b))

all_rise : every_kind (λ κ. below 4 (λ a. below 4 (rises κ a))) ≡ true
all_rise = refl

offset_rising : (κ : Kind) (a b : ℕ) → a < b → b < 4 → ComesBefore (offset κ (slot_of a)) (offset κ (slot_of b))
offset_rising κ a b h i =
    before_from_test (offset κ (slot_of a)) (offset κ (slot_of b))
    (implied (nat_lt a b) _ (below_at 4 (rises κ a) (below_at 4 (λ a. below 4 (rises κ a)) (kind_passes (λ κ. below 4 (λ a. below 4 (rises κ a))) all_rise κ) a (omega arith)) b i) (lt-ltb a b h))

-- the vertices of a lattice tetrahedron rise with their slots
pub vertex_rising : (b : Vector) (κ : Kind) (i j : ℕ) → i < j → j < 4 → ComesBefore (vertex_of b κ (slot_of i)) (vertex_of b κ (slot_of j))
vertex_rising b κ i j h l = before_shifted b (offset κ (slot_of i)) (offset κ (slot_of j)) (offset_rising κ i j h l)

-- slots of one tetrahedron in the order of its vertices
pub in_order : (b : Vector) (κ : Kind) (i j : ℕ) → i < 4 → j < 4 → ComesBefore (vertex_of b κ (slot_of i)) (vertex_of b κ (slot_of j)) → i < j
in_order b κ i j hi hj l = go (compared i j)
  where
    go : (i < j) ⊎ ((i ≡ j) ⊎ (j < i)) → i < j
    go (inl h) = h
    go (inr (inl e)) = absurd (not_before_itself (vertex_of b κ (slot_of i)) (vertex_of b κ (slot_of j)) (ap (λ n. vertex_of b κ (slot_of n)) e) l)
    go (inr (inr h)) = absurd (not_before_both (vertex_of b κ (slot_of i)) (vertex_of b κ (slot_of j)) l (vertex_rising b κ j i h hi))

-- two slots of one tetrahedron with one vertex are one slot
pub same_slot : (b : Vector) (κ : Kind) (i j : ℕ) → i < 4 → j < 4 → vertex_of b κ (slot_of i) ≡ vertex_of b κ (slot_of j) → i ≡ j
same_slot b κ i j hi hj e = go (compared i j)
  where
    go : (i < j) ⊎ ((i ≡ j) ⊎ (j < i)) → i ≡ j
    go (inl h) = absurd (not_before_itself (vertex_of b κ (slot_of i)) (vertex_of b κ (slot_of j)) e (vertex_rising b κ i j h hj))
    go (inr (inl f)) = f
    go (inr (inr h)) = absurd (not_before_itself (vertex_of b κ (slot_of j)) (vertex_of b κ (slot_of i)) (sym e) (vertex_rising b κ j i h hi))
