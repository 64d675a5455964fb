-- States of the noise, and lists over ranges.
use Rattle.std.proofs.Common.{◌≡◌, ℕ, ◌+◌, ◌<◌, zero, suc, ◌∷◌, map, ℤ, refl, ap, ◌∙◌, arith}
use Rattle.std.specs.Fn.{iterate}
use Rattle.std.specs.List.{range_with_len}
use Rattle.phantom.specs.Noise.{next_state, state}

iterate_add : (h : ℕ → ℕ) (m k x : ℕ) → iterate h (m + k) x ≡ iterate h k (iterate h m x)
iterate_add h zero k x = let e : 0 + k ≡ k = omega arith in ap (λ (n : ℕ). iterate h n x) e
iterate_add h (suc m) k x =
    let e : suc m + k ≡ suc (m + k) = omega arith in
    ap (λ (n : ℕ). iterate h n x) e ∙ iterate_add h m k (h x)

pub state_add : (seed m k : ℕ) → state seed (m + k) ≡ state (state seed m) k
state_add seed m k = iterate_add next_state m k seed

pub state_next : (seed k : ℕ) → state seed (k + 1) ≡ next_state (state seed k)
state_next seed k = state_add seed k 1

-- a list over a later range
pub map_shift : (f g : ℕ → ℤ) (a b n : ℕ) → ((x : ℕ) → x < b + n → f (a + x) ≡ g x) → map f (range_with_len (a + b) n) ≡ map g (range_with_len b n)
map_shift f g a b zero same = refl
map_shift f g a b (suc n) same =
    let e : a + b + 1 ≡ a + (b + 1) = omega arith in
    let here : f (a + b) ≡ g b = same b (omega arith) in
    let rest : map f (range_with_len (a + b + 1) n) ≡ map g (range_with_len (b + 1) n) =
    ap (λ (k : ℕ). map f (range_with_len k n)) e ∙ map_shift f g a (b + 1) n (λ x lt. same x (omega arith)) in
    λ i. here i ∷ rest i
