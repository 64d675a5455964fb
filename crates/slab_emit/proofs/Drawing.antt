-- Numbers that are drawn, and what is made of them.
use Rattle.std.proofs.Common.{◌≡◌, ℕ, zero, suc, ◌-◌, ◌<◌, ◌≤◌, arith, subst, List, [], ◌∷◌, ◌++◌, All}
use Rattle.list_words.proofs.Lists.{all_right}

-- a number above all that were drawn is not below the next after the last of them
pub follows : (next n : ℕ) (drawn : List ℕ) → (0 < next → (xs : List ℕ) × (drawn ≡ xs ++ (next - 1) ∷ [])) → All (λ x. x < n) drawn → next ≤ n
follows zero n drawn last above = omega arith
follows (suc k) n drawn last above =
    let l = last (omega arith) in
    let a : suc k - 1 < n = all_right (λ x. x < n) l.0 ((suc k - 1) ∷ []) (subst (All (λ x. x < n)) l.1 above) 0 0 (omega arith) in
    omega arith
