-- Rows of samples, one behind the other.
use Rattle.std.proofs.Common.{◌≡◌, ℕ, ◌+◌, ◌*◌, ◌/◌, ◌%◌, ◌<◌, List, [], ◌++◌, map, ℤ, ap, sym, ◌∙◌, arith, append_assoc, ◌∷◌, w64, to_z, of_z, FitsSigned, pos}
use Rattle.std.specs.Prelude.{◌≤ℤ◌}
use Rattle.std.proofs.lemmas.Int.{ints, to_z-of_z}
use Rattle.std.proofs.lemmas.List.{map-append}
use Rattle.std.proofs.lemmas.Nat.{div-mul-add, mod-mul-add}
use Rattle.std.proofs.lemmas.List.FromFn.{map-range_with_len_more}
use Rattle.std.specs.List.{range_with_len}
use Rattle.list_words.proofs.Ranges.{range_add}
use Rattle.phantom.specs.Noise.{state, next_state}
use Rattle.phantom.specs.Phantom.{off_middle, faded, phantom_sample}
use Rattle.phantom.specs.Rows.{row_sample, row_samples}
use Rattle.phantom.proofs.Sequences.{state_add, state_next, map_shift}

-- what is known of the two coordinates that a row has
abbrev pub row_rest : ℕ → ℕ → ℕ
row_rest n row = off_middle n (row % n) + off_middle n (row / n)

sample_in_row : (n seed row x : ℕ) → x < n → phantom_sample n seed (row * n + x) ≡ row_sample n (row_rest n row) (state seed (row * n)) x
sample_in_row n seed row x lt =
    let place : (row * n + x) % n ≡ x = mod-mul-add row n x lt in
    let above : (row * n + x) / n ≡ row = div-mul-add row n x lt in
    let sum : row * n + x + 1 ≡ row * n + (x + 1) = omega arith in
    let noise : state seed (row * n + x + 1) ≡ state (state seed (row * n)) (x + 1) = ap (state seed) sum ∙ state_add seed (row * n) (x + 1) in
    λ i. faded n (off_middle n (place i) + (off_middle n (above i % n) + off_middle n (above i / n))) (noise i)

row_is : (n seed row : ℕ) → map (phantom_sample n seed) (range_with_len (row * n) n) ≡ row_samples n (row_rest n row) (state seed (row * n)) n
row_is n seed row =
    let e : row * n ≡ row * n + 0 = omega arith in
    ap (λ (k : ℕ). map (phantom_sample n seed) (range_with_len k n)) e
    ∙ map_shift (phantom_sample n seed) (row_sample n (row_rest n row) (state seed (row * n))) (row * n) 0 n (λ x lt. sample_in_row n seed row x (omega arith))

-- one more row
pub more_rows : (n seed row s : ℕ) (before after : List ℤ) → before ≡ map (phantom_sample n seed) (range_with_len 0 (row * n)) → s ≡ state seed (row * n) → after ≡ before ++ row_samples n (row_rest n row) s n → after ≡ map (phantom_sample n seed) (range_with_len 0 ((row + 1) * n))
more_rows n seed row s before after old noise new =
    let z : 0 + row * n ≡ row * n = omega arith in
    let e : (row + 1) * n ≡ row * n + n = omega arith in
    new
    ∙ (λ i. old i ++ row_samples n (row_rest n row) (noise i) n)
    ∙ sym (
    ap (λ (k : ℕ). map (phantom_sample n seed) (range_with_len 0 k)) e
    ∙ ap (λ (ks : List ℕ). map (phantom_sample n seed) ks) (range_add 0 (row * n) n)
    ∙ map-append (phantom_sample n seed) (range_with_len 0 (row * n)) (range_with_len (0 + row * n) n)
    ∙ ap (λ (ks : List ℤ). map (phantom_sample n seed) (range_with_len 0 (row * n)) ++ ks)
    (ap (λ (k : ℕ). map (phantom_sample n seed) (range_with_len k n)) z ∙ row_is n seed row))

pub more_noise : (n seed row s t : ℕ) → s ≡ state seed (row * n) → t ≡ state s n → t ≡ state seed ((row + 1) * n)
more_noise n seed row s t old new =
    let e : (row + 1) * n ≡ row * n + n = omega arith in
    new ∙ ap (λ (k : ℕ). state k n) old ∙ sym (ap (state seed) e ∙ state_add seed (row * n) n)

-- within a row
pub one_more_state : (seed x s t : ℕ) → s ≡ state seed x → t ≡ next_state s → t ≡ state seed (x + 1)
one_more_state seed x s t old new = new ∙ ap next_state old ∙ sym (state_next seed x)

pub more_samples : (n rest seed x t : ℕ) (initial before after : List ℤ) (z : ℤ) → before ≡ initial ++ row_samples n rest seed x → after ≡ before ++ z ∷ [] → z ≡ faded n (off_middle n x + rest) t → t ≡ state seed (x + 1) → after ≡ initial ++ row_samples n rest seed (x + 1)
more_samples n rest seed x t initial before after z old new is noise =
    let e : 0 + x ≡ x = omega arith in
    new
    ∙ (λ i. old i ++ (is ∙ ap (faded n (off_middle n x + rest)) noise) i ∷ [])
    ∙ append_assoc initial (row_samples n rest seed x) (row_sample n rest seed x ∷ [])
    ∙ ap (λ (zs : List ℤ). initial ++ zs) (sym (map-range_with_len_more (row_sample n rest seed) 0 x x e))

pub pushed : (before after : List ℤ) (z : ℤ) → pos 0 ≤ℤ z → z ≤ℤ pos 255 → after ≡ before ++ to_z w64 (of_z w64 z) ∷ [] → after ≡ before ++ z ∷ []
pushed before after z low high new =
    let fits : FitsSigned w64 z = omega (arith, ints) in
    new ∙ ap (λ (y : ℤ). before ++ y ∷ []) (to_z-of_z w64 z fits)
