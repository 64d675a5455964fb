-- The order of two fractions of natural numbers by their leading bits.
use Rattle.std.proofs.Common.{◌≡◌, ℕ, ◌+◌, ◌-◌, ◌*◌, ◌/◌, ◌^◌, ◌<◌, ◌≤◌, arith, Option, Some, None, lit<}
use Rattle.std.specs.Prelude.{IfSome}
use Rattle.std.specs.declared.cmp.Ordering.{Ordering}
use Rattle.std.specs.declared.cmp.Ordering.TheVariants.{Less, Equal, Greater}
use Rattle.std.specs.Ordering.{MatchOrdering, nat_cmp}
use Rattle.std.specs.Cmp.{nat_cmp_is}
use Rattle.std.proofs.Math.Nat.{mul-le-mul_right, pow-le-pow_right}
use Rattle.std.proofs.lemmas.Nat.{div-add-mod', mod_below, mul-le, pow_pos, leading_length}
use lib.Count.{count_leading_zeros}
use Rattle.dihedral.specs.Fractions.{AreApart}

gap : (a d c b A D C B S T : ℕ) → a + 1 ≤ (A + 1) * S → d + 1 ≤ (D + 1) * T → C * T ≤ c → B * S ≤ b → (A + 1) * (D + 1) ≤ C * B → a * d < c * b
gap a d c b A D C B S T high_a high_d low_c low_b h =
    let above = mul-le (a + 1) (d + 1) ((A + 1) * S) ((D + 1) * T) high_a high_d in
    let between = mul-le-mul_right (S * T) h in
    let below = mul-le (C * T) (B * S) c b low_c low_b in
    omega arith

high : (n k : ℕ) → n + 1 ≤ (n / 2 ^ k + 1) * 2 ^ k
high n k = let e = div-add-mod' n (2 ^ k) in let m = mod_below n (2 ^ k) (pow_pos k) in omega arith

low : (n k : ℕ) → n / 2 ^ k * 2 ^ k ≤ n
low n k = let e = div-add-mod' n (2 ^ k) in omega arith

-- an order that the leading parts have is that of the fractions
pub apart-order : (a b c d s t : ℕ) (o : Option Ordering) → IfSome o (λ r. AreApart r (a / 2 ^ s) (b / 2 ^ s) (c / 2 ^ t) (d / 2 ^ t)) → IfSome o (λ r. r ≡ nat_cmp (a * d) (c * b))
apart-order a b c d s t None h = tt
apart-order a b c d s t (Some r) h = nat_cmp_is (a * d) (c * b) r (go r h)
  where
    go : (r : Ordering) → AreApart r (a / 2 ^ s) (b / 2 ^ s) (c / 2 ^ t) (d / 2 ^ t) → MatchOrdering r (a * d < c * b) (a * d ≡ c * b) (c * b < a * d)
    go Less h = gap a d c b (a / 2 ^ s) (d / 2 ^ t) (c / 2 ^ t) (b / 2 ^ s) (2 ^ s) (2 ^ t) (high a s) (high d t) (low c t) (low b s) h
    go Equal h = absurd h
    go Greater h = gap c b a d (c / 2 ^ t) (b / 2 ^ s) (a / 2 ^ s) (d / 2 ^ t) (2 ^ t) (2 ^ s) (high c t) (high b s) (low a s) (low d t) h

-- how many bits a number has, above 62
pub spare-bits : (n r : ℕ) → n < 2 ^ 128 → r ≡ 128 - count_leading_zeros 128 n - 62 → n < 2 ^ (62 + r)
spare-bits n r fits e =
    let m = leading_length 128 n fits in
    let wide : m.0 ≤ 62 + r = let whole = m.1 in omega arith in
    let two : 0 < 2 = lit< tt in
    let grown = pow-le-pow_right two wide in
    let below = m.2 in
    omega arith
