-- The order of two fractions of natural numbers by their quotients and remainders.
use Rattle.std.proofs.Common.{◌≡◌, ◌≢◌, ℕ, ◌+◌, ◌*◌, ◌/◌, ◌%◌, ◌<◌, ◌≤◌, ap, sym, ◌∙◌, arith, inl, inr, ◌⊎◌}
use Rattle.std.specs.declared.cmp.Ordering.{Ordering}
use Rattle.std.specs.declared.cmp.Ordering.TheVariants.{Less, Equal, Greater}
use Rattle.std.specs.Ordering.{MatchOrdering, nat_cmp}
use Rattle.std.specs.Cmp.{nat_cmp_is, ranked}
use Rattle.std.proofs.Math.Nat.{mul-le-mul_right, one-le-mul}
use Rattle.std.proofs.lemmas.Nat.{div-add-mod', mod_below}

-- the order of u and v is that of x and y
pub order_from : (x y u v : ℕ) (r : Ordering) → (u < v → x < y) → (u ≡ v → x ≡ y) → (v < u → y < x) → r ≡ nat_cmp u v → r ≡ nat_cmp x y
order_from x y u v r less equal greater e = nat_cmp_is x y r (go r (ranked u v r e))
  where
    go : (r : Ordering) → MatchOrdering r (u < v) (u ≡ v) (v < u) → MatchOrdering r (x < y) (x ≡ y) (y < x)
    go Less h = less h
    go Equal h = equal h
    go Greater h = greater h

wholes_below : (a b c d q p r s : ℕ) → 0 < d → q * b + r ≡ a → r < b → p * d + s ≡ c → q < p → a * d < c * b
wholes_below a b c d q p r s some e below f h =
    let next : a + 1 ≤ (q + 1) * b = omega arith in
    let high = mul-le-mul_right d next in
    let low : p * d ≤ c = omega arith in
    let under = mul-le-mul_right b low in
    let one_more : q + 1 ≤ p = omega arith in
    let between = mul-le-mul_right (b * d) one_more in
    omega arith

quotients_below : (a b c d : ℕ) → 0 < b → 0 < d → a / b < c / d → a * d < c * b
quotients_below a b c d p q h = wholes_below a b c d (a / b) (c / d) (a % b) (c % d) q (div-add-mod' a b) (mod_below a b p) (div-add-mod' c d) h

-- where the quotients differ, theirs is the order
pub by_wholes : (a b c d : ℕ) (r : Ordering) → 0 < b → 0 < d → a / b ≢ c / d → r ≡ nat_cmp (a / b) (c / d) → r ≡ nat_cmp (a * d) (c * b)
by_wholes a b c d r p q differ = order_from (a * d) (c * b) (a / b) (c / d) r (quotients_below a b c d p q) (λ e. absurd (differ e)) (quotients_below c d a b q p)

same_whole : (a b c d q r s : ℕ) (o : Ordering) → q * b + r ≡ a → q * d + s ≡ c → o ≡ nat_cmp (d * r) (b * s) → o ≡ nat_cmp (a * d) (c * b)
same_whole a b c d q r s o e f =
    let left : (q * b + r) * d ≡ a * d = ap (λ t. t * d) e in
    let right : (q * d + s) * b ≡ c * b = ap (λ t. t * b) f in
    order_from (a * d) (c * b) (d * r) (b * s) o (λ h. omega arith) (λ h. omega arith) (λ h. omega arith)

-- where they are one, it is the order of the reciprocals of what is left, turned round
pub by_rests : (a b c d : ℕ) (o : Ordering) → a / b ≡ c / d → o ≡ nat_cmp (d * (a % b)) (b * (c % d)) → o ≡ nat_cmp (a * d) (c * b)
by_rests a b c d o same =
    same_whole a b c d (a / b) (a % b) (c % d) o (div-add-mod' a b) (ap (λ t. t * d + c % d) same ∙ div-add-mod' c d)

-- and where nothing is left of one, the order of the rests
pub by_ends : (b d r s : ℕ) (o : Ordering) → 0 < b → 0 < d → (r ≡ 0) ⊎ (s ≡ 0) → o ≡ nat_cmp r s → o ≡ nat_cmp (d * r) (b * s)
by_ends b d r s o p q (inl e) =
    let none : d * r ≡ d * 0 = ap (λ t. d * t) e in
    order_from (d * r) (b * s) r s o (λ h. let some : 1 ≤ s = omega arith in let more = one-le-mul p some in omega arith) (λ h. let zero_too : b * s ≡ b * 0 = ap (λ t. b * t) (sym h ∙ e) in omega arith) (λ h. omega arith)
by_ends b d r s o p q (inr e) =
    let none : b * s ≡ b * 0 = ap (λ t. b * t) e in
    order_from (d * r) (b * s) r s o (λ h. omega arith) (λ h. let zero_too : d * r ≡ d * 0 = ap (λ t. d * t) (h ∙ e) in omega arith) (λ h. let some : 1 ≤ r = omega arith in let more = one-le-mul q some in omega arith)
