-- Whether a quotient is within a share, without a division.
use Rattle.std.proofs.Common.{◌≡◌, ℕ, ◌+◌, ◌-◌, ◌*◌, ◌/◌, ◌<◌, ◌≤◌, arith, nat_lt, nat_le}
use Rattle.std.proofs.Math.Nat.{div-lt_iff_lt-mul}
use Rattle.std.proofs.lemmas.Bool.{le-leb, leb-true, lt-ltb, ltb-true}
use Rattle.list_words.proofs.Tests.{same_tests}

-- at most a share from below, and at most a share from the upper end
pub near_from_below : (whole part share : ℕ) → 0 < part → nat_lt whole (part * (share + 1)) ≡ nat_le (whole / part) share
near_from_below whole part share some = same_tests (nat_lt whole (part * (share + 1))) (nat_le (whole / part) share)
    (λ h. le-leb (whole / part) share (let l = ltb-true whole (part * (share + 1)) h in let q : whole / part < share + 1 = (div-lt_iff_lt-mul some).1 (turn whole part (share + 1) l) in omega arith))
    (λ h. lt-ltb whole (part * (share + 1)) (let l = leb-true (whole / part) share h in let q : whole / part < share + 1 = omega arith in let m = (div-lt_iff_lt-mul some).0 q in back whole part (share + 1) m))
  where
    turn : (w p s : ℕ) → w < p * s → w < s * p
    turn w p s h = omega arith

    back : (w p s : ℕ) → w < s * p → w < p * s
    back w p s h = omega arith

pub near_from_above : (whole part share : ℕ) → 0 < part → share ≤ 4096 → nat_le (part * (4096 - share)) whole ≡ nat_le (4096 - whole / part) share
near_from_above whole part share some small = same_tests (nat_le (part * (4096 - share)) whole) (nat_le (4096 - whole / part) share)
    (λ h. le-leb (4096 - whole / part) share (reach (whole / part) share (not_below (whole / part) (4096 - share) (λ q. clash whole part (4096 - share) (leb-true (part * (4096 - share)) whole h) ((div-lt_iff_lt-mul some).0 q)))))
    (λ h. le-leb (part * (4096 - share)) whole (not_above whole part (4096 - share) (λ m. past (whole / part) share (leb-true (4096 - whole / part) share h) ((div-lt_iff_lt-mul some).1 m))))
  where
    not_below : (q s : ℕ) → (q < s → ⊥) → s ≤ q
    not_below q s h = grind arith

    clash : (w p s : ℕ) → p * s ≤ w → w < s * p → ⊥
    clash w p s h l = absurd (omega arith)

    reach : (q s : ℕ) → 4096 - s ≤ q → 4096 - q ≤ s
    reach q s h = omega arith

    not_above : (w p s : ℕ) → (w < s * p → ⊥) → p * s ≤ w
    not_above w p s h = grind arith

    past : (q s : ℕ) → 4096 - q ≤ s → q < 4096 - s → ⊥
    past q s h l = omega arith

-- a cut's number is at most the scale
pub quotient_small : (a b : ℕ) → 0 < a → (8192 * a + a + b) / (2 * (a + b)) ≤ 4096
quotient_small a b h =
    let q : (8192 * a + a + b) / (2 * (a + b)) < 4097 = (div-lt_iff_lt-mul (let p : 0 < 2 * (a + b) = omega arith in p)).1 (let p : 8192 * a + a + b < 4097 * (2 * (a + b)) = omega arith in p) in
    omega arith
