-- A fraction in lowest terms is a fraction, and stands where it stood.
use Rattle.std.proofs.Common.{◌≡◌, ℕ, zero, suc, ◌+◌, ◌*◌, ◌/◌, ◌<◌, ◌≤◌, refl, ap, sym, subst, ◌∙◌, arith, inl, inr, ◌⊎◌, Bool, true, false, ℤ, pos, ◌+ℤ◌, ◌*ℤ◌, ◌<ℤ◌, ◌≤ℤ◌}
use Rattle.std.specs.Prelude.{int_lt}
use Rattle.std.proofs.Math.IntN.{*ℤ_comm}
use Rattle.std.proofs.Math.Nat.{mul_comm, mul_assoc}
use Rattle.std.proofs.lemmas.Int.{ints}
use Rattle.exact.proofs.IntegerLaws.{mul_add, mul_left_comm, one_mul}
use Rattle.exact.proofs.IntegerOrder.{times_monotone, less_or_at_most}
use Rattle.definitions.specs.declared.Cosine.{Cosine}
use Rattle.definitions.specs.Angles.{is_less, greatest_divisor}
use Rattle.dihedral.specs.Fractions.{IsFraction, in_lowest_terms}
use Rattle.dihedral.proofs.Divisors.{quotient_left, quotient_right, greatest_divisor_positive}

-- both parts of a are those of b, g times
pub record IsMultiple (a b : Cosine) (g : ℕ) : Type 0 where
  pub sign : a.sign ≡ b.sign
  pub num : a.num ≡ b.num * g
  pub den : a.den ≡ b.den * g
  pub some : 0 < g

pub reduced : (a : Cosine) → 1 ≤ a.den → IsMultiple a (in_lowest_terms a) (greatest_divisor a.num a.den)
reduced a h = record { sign = refl; num = quotient_left a.num a.den; den = quotient_right a.num a.den; some = greatest_divisor_positive a.num a.den h }

zero_quotient : (q g : ℕ) → 0 < g → q * g ≡ 0 → q ≡ 0
zero_quotient zero g h e = refl
zero_quotient (suc q) g h e = absurd (omega arith)

pub IsFraction-lowest : (a : Cosine) → IsFraction a → IsFraction (in_lowest_terms a)
IsFraction-lowest a f = go (in_lowest_terms a) (greatest_divisor a.num a.den) (reduced a f.den)
  where
    go : (b : Cosine) (g : ℕ) → IsMultiple a b g → IsFraction b
    go b g m =
        record {
          sign = subst (λ (s : ℤ). Rattle.std.proofs.Common.unsigned_abs s ≤ 1) m.sign f.sign;
          zero = ((λ e. zero_quotient b.num g m.some (sym m.num ∙ f.zero.0 (m.sign ∙ e))), (λ e. sym m.sign ∙ f.zero.1 (let none : b.num * g ≡ 0 * g = ap (λ t. t * g) e in let whole = m.num in omega arith)));
          den = some b.den g (subst (λ (n : ℕ). 1 ≤ n) m.den f.den);
        }
      where
        some : (d g : ℕ) → 1 ≤ d * g → 1 ≤ d
        some zero g h = absurd (omega arith)
        some (suc d) g h = omega arith

-- a product with a number above 0 keeps the strict order
pub times_strict : (c : ℕ) (x y : ℤ) → 0 < c → x <ℤ y → (pos c *ℤ x) <ℤ (pos c *ℤ y)
times_strict c x y h l =
    let next : (x +ℤ pos 1) ≤ℤ y = omega (arith, ints) in
    let step = times_monotone c (x +ℤ pos 1) y next in
    let parts = mul_add (pos c) x (pos 1) in
    let whole = *ℤ_comm (pos c) (pos 1) ∙ one_mul (pos c) in
    omega (arith, ints)

by_cases : (c : ℕ) (x y : ℤ) → 0 < c → (x <ℤ y) ⊎ (y ≤ℤ x) → int_lt (pos c *ℤ x) (pos c *ℤ y) ≡ int_lt x y
by_cases c x y h (inl l) = let m = times_strict c x y h l in true_both m l
  where
    true_both : (pos c *ℤ x) <ℤ (pos c *ℤ y) → x <ℤ y → int_lt (pos c *ℤ x) (pos c *ℤ y) ≡ int_lt x y
    true_both m l = grind (arith, ints)
by_cases c x y h (inr l) = let m = times_monotone c y x l in false_both m l
  where
    false_both : (pos c *ℤ y) ≤ℤ (pos c *ℤ x) → y ≤ℤ x → int_lt (pos c *ℤ x) (pos c *ℤ y) ≡ int_lt x y
    false_both m l = grind (arith, ints)

-- the test is the same on both sides times a number above 0
int_lt-times : (c : ℕ) (x y : ℤ) → 0 < c → int_lt (pos c *ℤ x) (pos c *ℤ y) ≡ int_lt x y
int_lt-times c x y h = by_cases c x y h (less_or_at_most x y)

factor_out : (s : ℤ) (n d g k : ℕ) → s *ℤ pos ((n * g) * (d * k)) ≡ pos (g * k) *ℤ (s *ℤ pos (n * d))
factor_out s n d g k =
    let e : (n * g) * (d * k) ≡ (g * k) * (n * d) = omega arith in
    ap (λ t. s *ℤ pos t) e ∙ mul_left_comm s (pos (g * k)) (pos (n * d))

multiples : (a b x y : Cosine) (g k : ℕ) → IsMultiple a x g → IsMultiple b y k → is_less a b ≡ is_less x y
multiples a b x y g k m n =
    let left : a.sign *ℤ pos (a.num * b.den) ≡ pos (g * k) *ℤ (x.sign *ℤ pos (x.num * y.den)) =
    ap (λ t. t *ℤ pos (a.num * b.den)) m.sign ∙ ap (λ t. x.sign *ℤ pos (t * b.den)) m.num ∙ ap (λ t. x.sign *ℤ pos ((x.num * g) * t)) n.den ∙ factor_out x.sign x.num y.den g k in
    let right : b.sign *ℤ pos (b.num * a.den) ≡ pos (g * k) *ℤ (y.sign *ℤ pos (y.num * x.den)) =
    ap (λ t. t *ℤ pos (b.num * a.den)) n.sign ∙ ap (λ t. y.sign *ℤ pos (t * a.den)) n.num ∙ ap (λ t. y.sign *ℤ pos ((y.num * k) * t)) m.den ∙ factor_out y.sign y.num x.den k g ∙ ap (λ t. pos t *ℤ (y.sign *ℤ pos (y.num * x.den))) (mul_comm k g) in
    ap (λ t. int_lt t (b.sign *ℤ pos (b.num * a.den))) left ∙ ap (λ t. int_lt (pos (g * k) *ℤ (x.sign *ℤ pos (x.num * y.den))) t) right
    ∙ int_lt-times (g * k) (x.sign *ℤ pos (x.num * y.den)) (y.sign *ℤ pos (y.num * x.den)) (let some : 1 ≤ g * k = Rattle.std.proofs.Math.Nat.one-le-mul m.some n.some in omega arith)

-- the order is that of the fractions in lowest terms
pub is_less-lowest : (a b : Cosine) → 1 ≤ a.den → 1 ≤ b.den → is_less (in_lowest_terms a) (in_lowest_terms b) ≡ is_less a b
is_less-lowest a b h k = sym (multiples a b (in_lowest_terms a) (in_lowest_terms b) _ _ (reduced a h) (reduced b k))
