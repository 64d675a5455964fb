-- The greatest common divisor of the definitions is one.
use Rattle.std.proofs.Common.{◌≡◌, ℕ, zero, suc, ◌*◌, ◌/◌, ◌%◌, ◌<◌, refl, arith}
use Rattle.std.specs.Int.{IsGcd}
use Rattle.std.proofs.lemmas.Nat.{div-add-mod', mod_below}
use Rattle.std.proofs.lemmas.Nat.Gcd.{IsGcd-from_zero, IsGcd-from_mod, same_from_IsGcd, mod-eq-zero_of_dvd}
use Prim.Native.Nat.{◌∣◌}
use Rattle.definitions.specs.Angles.{greatest_divisor_within, greatest_divisor}

within-is_gcd : (n a b : ℕ) → b < n → IsGcd a b (greatest_divisor_within n a b)
within-is_gcd zero a b h = absurd (omega arith)
within-is_gcd (suc n) a zero h = IsGcd-from_zero a 0 refl
within-is_gcd (suc n) a (suc b) h =
    let some : 0 < suc b = omega arith in
    let falls = mod_below a (suc b) some in
    IsGcd-from_mod a (suc b) _ (within-is_gcd n (suc b) (a % suc b) (omega arith))

pub greatest_divisor-is_gcd : (a b : ℕ) → IsGcd a b (greatest_divisor a b)
unfolding greatest_divisor
greatest_divisor-is_gcd a b = within-is_gcd (suc b) a b (omega arith)

-- one number alone is
pub greatest_divisor_from : (a b g : ℕ) → IsGcd a b g → g ≡ greatest_divisor a b
greatest_divisor_from a b g h = same_from_IsGcd a b g (greatest_divisor a b) h (greatest_divisor-is_gcd a b)

exact_quotient : (n g : ℕ) → g ∣ n → n ≡ n / g * g
exact_quotient n g h = let none = mod-eq-zero_of_dvd g h in let whole = div-add-mod' n g in omega arith

pub quotient_left : (a b : ℕ) → a ≡ a / greatest_divisor a b * greatest_divisor a b
quotient_left a b = exact_quotient a (greatest_divisor a b) (greatest_divisor-is_gcd a b).0

pub quotient_right : (a b : ℕ) → b ≡ b / greatest_divisor a b * greatest_divisor a b
quotient_right a b = exact_quotient b (greatest_divisor a b) (greatest_divisor-is_gcd a b).1

pub greatest_divisor_positive : (a b : ℕ) → 0 < b → 0 < greatest_divisor a b
greatest_divisor_positive a b h = go (greatest_divisor a b) (quotient_right a b)
  where
    go : (g : ℕ) → b ≡ b / g * g → 0 < g
    go zero e = absurd (omega arith)
    go (suc g) e = omega arith
