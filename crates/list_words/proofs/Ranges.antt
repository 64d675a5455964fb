-- Ranges of numbers in parts, and tests that agree over a range.
use Rattle.std.proofs.Common.{◌≡◌, ℕ, zero, suc, ◌+◌, ◌<◌, ◌≤◌, Bool, ◌||◌, List, ◌∷◌, ◌++◌, refl, ap, ◌∙◌, arith}
use Rattle.std.specs.List.{range_with_len, list_any}

-- two ranges that follow each other
pub range_add : (a m n : ℕ) → range_with_len a (m + n) ≡ range_with_len a m ++ range_with_len (a + m) n
range_add a zero n =
    let e : 0 + n ≡ n = omega arith in
    let f : a ≡ a + 0 = omega arith in
    ap (λ (k : ℕ). range_with_len a k) e ∙ ap (λ (k : ℕ). range_with_len k n) f
range_add a (suc m) n =
    let e : suc m + n ≡ suc (m + n) = omega arith in
    let f : a + 1 + m ≡ a + suc m = omega arith in
    ap (λ (k : ℕ). range_with_len a k) e ∙ ap (λ (ks : List ℕ). a ∷ ks) (range_add (a + 1) m n ∙ ap (λ (k : ℕ). range_with_len (a + 1) m ++ range_with_len k n) f)

pub any_agree : (p q : ℕ → Bool) (a n : ℕ) → ((k : ℕ) → a ≤ k → k < a + n → p k ≡ q k) → list_any p (range_with_len a n) ≡ list_any q (range_with_len a n)
any_agree p q a zero h = refl
any_agree p q a (suc n) h =
    let first = h a (omega arith) (omega arith) in
    let rest = any_agree p q (a + 1) n (λ k lo hi. h k (omega arith) (omega arith)) in
    λ i. first i || rest i
