-- The order of fractions with signs.
use Rattle.std.proofs.Common.{◌≡◌, ◌≢◌, ℕ, zero, suc, ◌*◌, ◌<◌, ◌≤◌, refl, ap, sym, ◌∙◌, arith, ℤ, pos, negsuc, ◌*ℤ◌, ◌<ℤ◌, ◌≤ℤ◌, unsigned_abs}
use Rattle.std.specs.Prelude.{◌↔◌, IsTrue, int_lt}
use Rattle.std.specs.declared.cmp.Ordering.{Ordering}
use Rattle.std.specs.declared.cmp.Ordering.TheVariants.{Less, Equal, Greater}
use Rattle.std.specs.Ordering.{MatchOrdering, nat_cmp, int_cmp}
use Rattle.std.specs.Cmp.{int_cmp_is, int_ranked, ranked}
use Rattle.std.proofs.Math.Nat.{one-le-mul}
use Rattle.std.proofs.lemmas.Int.{ints}
use Rattle.definitions.specs.declared.Cosine.{Cosine}
use Rattle.dihedral.specs.Fractions.{IsFraction}

-- what an order says, as tests
pub record Tells (r : Ordering) (x y : ℤ) : Type 0 where
  pub less : (r ≡ Less) ↔ IsTrue (int_lt x y)
  pub greater : (r ≡ Greater) ↔ IsTrue (int_lt y x)

pub is_true : (x y : ℤ) → x <ℤ y → IsTrue (int_lt x y)
is_true x y h = grind (arith, ints)

pub is_below : (x y : ℤ) → IsTrue (int_lt x y) → x <ℤ y
is_below x y t = grind (arith, ints)

tells : (x y : ℤ) (r : Ordering) → r ≡ int_cmp x y → Tells r x y
tells x y r e = go r (int_ranked x y r e)
  where
    go : (r : Ordering) → MatchOrdering r (x <ℤ y) (x ≡ y) (y <ℤ x) → Tells r x y
    go Less h = record { less = ((λ _. is_true x y h), (λ _. refl)); greater = ((λ e. cc), (λ t. let other = is_below y x t in absurd (omega (arith, ints)))) }
    go Equal h = record { less = ((λ e. cc), (λ t. let other = is_below x y t in absurd (omega (arith, ints)))); greater = ((λ e. cc), (λ t. let other = is_below y x t in absurd (omega (arith, ints)))) }
    go Greater h = record { less = ((λ e. cc), (λ t. let other = is_below x y t in absurd (omega (arith, ints)))); greater = ((λ _. is_true y x h), (λ _. refl)) }

by_signs : (s t : ℤ) (x y : ℕ) → unsigned_abs s ≤ 1 → unsigned_abs t ≤ 1 → (s ≢ pos 0 → 1 ≤ x) → (t ≢ pos 0 → 1 ≤ y) → s <ℤ t → (s *ℤ pos x) <ℤ (t *ℤ pos y)
by_signs (pos zero) (pos (suc zero)) x y p q h k l = let some : 1 ≤ y = k (λ e. cc) in omega (arith, ints)
by_signs (negsuc zero) (pos zero) x y p q h k l = let some : 1 ≤ x = h (λ e. cc) in omega (arith, ints)
by_signs (negsuc zero) (pos (suc zero)) x y p q h k l = let some : 1 ≤ x = h (λ e. cc) in omega (arith, ints)
by_signs s t x y p q h k l = absurd (omega (arith, ints))

-- the product of the numerator and another's denominator is some number unless the sign is 0
some_product : (s : ℤ) (n d : ℕ) → (s ≡ pos 0) ↔ (n ≡ 0) → 1 ≤ d → s ≢ pos 0 → 1 ≤ n * d
some_product s zero d e p h = absurd (h (e.1 refl))
some_product s (suc n) d e p h = let some : 1 ≤ suc n = omega arith in one-le-mul some p

no_product : (s : ℤ) (n d : ℕ) → (s ≡ pos 0) ↔ (n ≡ 0) → s ≡ pos 0 → n * d ≡ 0
no_product s n d e h = let none : n ≡ 0 = e.0 h in let f : n * d ≡ 0 * d = ap (λ t. t * d) none in omega arith

abbrev left : Cosine → Cosine → ℤ
left a b = a.sign *ℤ pos (a.num * b.den)

abbrev TellsOrder : Ordering → Cosine → Cosine → Type 0
TellsOrder r a b = Tells r (left a b) (left b a)

-- signs that differ decide
pub signs_tell : (a b : Cosine) (r : Ordering) → IsFraction a → IsFraction b → a.sign ≢ b.sign → r ≡ int_cmp a.sign b.sign → TellsOrder r a b
signs_tell a b r f g differ e = tells (left a b) (left b a) r (int_cmp_is (left a b) (left b a) r (go r (int_ranked a.sign b.sign r e)))
  where
    go : (r : Ordering) → MatchOrdering r (a.sign <ℤ b.sign) (a.sign ≡ b.sign) (b.sign <ℤ a.sign) → MatchOrdering r (left a b <ℤ left b a) (left a b ≡ left b a) (left b a <ℤ left a b)
    go Less h = by_signs a.sign b.sign (a.num * b.den) (b.num * a.den) f.sign g.sign (some_product a.sign a.num b.den f.zero g.den) (some_product b.sign b.num a.den g.zero f.den) h
    go Equal h = absurd (differ h)
    go Greater h = by_signs b.sign a.sign (b.num * a.den) (a.num * b.den) g.sign f.sign (some_product b.sign b.num a.den g.zero f.den) (some_product a.sign a.num b.den f.zero g.den) h

-- one sign that is not below 0: the sizes decide
same_sign : (s : ℤ) (x y : ℕ) (r : Ordering) → unsigned_abs s ≤ 1 → pos 0 ≤ℤ s → (s ≡ pos 0 → x ≡ 0) → (s ≡ pos 0 → y ≡ 0) → r ≡ nat_cmp x y → r ≡ int_cmp (s *ℤ pos x) (s *ℤ pos y)
same_sign (pos zero) x y r p q h k e = let none : x ≡ 0 = h refl in let none_too : y ≡ 0 = k refl in int_cmp_is _ _ r (go r (ranked x y r e))
  where
    go : (r : Ordering) → MatchOrdering r (x < y) (x ≡ y) (y < x) → MatchOrdering r ((pos 0 *ℤ pos x) <ℤ (pos 0 *ℤ pos y)) (pos 0 *ℤ pos x ≡ pos 0 *ℤ pos y) ((pos 0 *ℤ pos y) <ℤ (pos 0 *ℤ pos x))
    go Less l = let none : x ≡ 0 = h refl in let none_too : y ≡ 0 = k refl in absurd (omega arith)
    go Equal l = ap (λ t. pos 0 *ℤ pos t) l
    go Greater l = let none : x ≡ 0 = h refl in let none_too : y ≡ 0 = k refl in absurd (omega arith)
same_sign (pos (suc zero)) x y r p q h k e = int_cmp_is _ _ r (go r (ranked x y r e))
  where
    go : (r : Ordering) → MatchOrdering r (x < y) (x ≡ y) (y < x) → MatchOrdering r ((pos 1 *ℤ pos x) <ℤ (pos 1 *ℤ pos y)) (pos 1 *ℤ pos x ≡ pos 1 *ℤ pos y) ((pos 1 *ℤ pos y) <ℤ (pos 1 *ℤ pos x))
    go Less l = omega (arith, ints)
    go Equal l = ap (λ t. pos 1 *ℤ pos t) l
    go Greater l = omega (arith, ints)
same_sign (pos (suc (suc n))) x y r p q h k e = absurd (omega (arith, ints))
same_sign (negsuc n) x y r p q h k e = absurd (omega (arith, ints))

pub sizes_tell : (a b : Cosine) (r : Ordering) → IsFraction a → IsFraction b → a.sign ≡ b.sign → pos 0 ≤ℤ a.sign → r ≡ nat_cmp (a.num * b.den) (b.num * a.den) → TellsOrder r a b
sizes_tell a b r f g same up e =
    tells (left a b) (left b a) r
    (same_sign a.sign (a.num * b.den) (b.num * a.den) r f.sign up (no_product a.sign a.num b.den f.zero) (λ z. no_product b.sign b.num a.den g.zero (sym same ∙ z)) e
    ∙ ap (λ t. int_cmp (left a b) (t *ℤ pos (b.num * a.den))) same)
