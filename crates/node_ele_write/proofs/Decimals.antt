-- Decimal numbers: how long they are, and how zeros come in front of one.
use Rattle.std.proofs.Common.{◌≡◌, ℕ, zero, suc, ◌+◌, ◌-◌, ◌*◌, ◌/◌, ◌%◌, ◌^◌, ◌<◌, ◌≤◌, List, [], ◌∷◌, ◌++◌, length, drop, take, replicate, decimal, refl, ap, sym, ◌∙◌, inl, inr, arith, append_assoc, length-append}
use Rattle.std.specs.Prelude.{slice_set}
use Rattle.std.proofs.Math.Nat.{pow-suc}
use Rattle.std.proofs.lemmas.Bool.{cases_lt}
use Rattle.std.proofs.lemmas.Fmt.{decimal_digit, decimal_step, decimal_step_wide, length-decimal-le}
use Rattle.std.proofs.lemmas.List.{take_at, replicate-append-replicate}
use Rattle.list_words.proofs.Digits.{padded_length}
use Rattle.mesh_texts.specs.Coordinates.{padded_decimal}

-- how long a number is at most
pub any_length : (n : ℕ) → n < 2 ^ 64 → length (decimal n) ≤ 20
any_length n small = length-decimal-le 20 n (omega arith) (omega arith) small

pub small_length : (n : ℕ) → n < 2 ^ 32 → length (decimal n) ≤ 10
small_length n small = length-decimal-le 10 n (omega arith) (omega arith) (omega arith)

-- one more digit behind a padded number
padded_digit : (k n : ℕ) → n < 10 → padded_decimal (suc (suc k)) n ≡ padded_decimal (suc k) (n / 10) ++ ((48 + n % 10) ∷ [])
padded_digit k n digit =
    let below : 0 < 10 = omega arith in
    let none : n / 10 ≡ 0 = omega arith in
    let same : n % 10 ≡ n = omega arith in
    let more : suc (suc k) - 1 ≡ k + 1 = omega arith in
    let less : suc k - 1 ≡ k = omega arith in
    let zeros : replicate (suc (suc k) - 1) 48 ≡ replicate (suc k - 1) 48 ++ (48 ∷ []) = rw (more, less) (sym (replicate-append-replicate k 1 48)) in
    let none_is : decimal 0 ≡ 48 ∷ [] = decimal_digit 0 below in
    rw (none, same, decimal_digit n digit, none_is) (ap (λ (zs : List ℕ). zs ++ ((48 + n) ∷ [])) {y = replicate (suc k - 1) 48 ++ (48 ∷ [])} zeros)

padded_more : (k n : ℕ) → 10 ≤ n → n < 10 ^ 64 → padded_decimal (suc (suc k)) n ≡ padded_decimal (suc k) (n / 10) ++ ((48 + n % 10) ∷ [])
padded_more k n more small =
    let front = decimal (n / 10) in
    let digit = 48 + n % 10 in
    let zeros : suc (suc k) - length (front ++ (digit ∷ [])) ≡ suc k - length front = omega (arith, length-append front (digit ∷ [])) in
    rw (decimal_step_wide n more small, zeros) (sym (append_assoc (replicate (suc k - length front) 48) front (digit ∷ [])))

pub padded_step : (k n : ℕ) → n < 10 ^ 64 → padded_decimal (suc (suc k)) n ≡ padded_decimal (suc k) (n / 10) ++ ((48 + n % 10) ∷ [])
padded_step k n small = elim (cases_lt n 10) [ inl digit ↦ padded_digit k n digit | inr more ↦ padded_more k n more small ]

one_before_digit : (n : ℕ) → n < 10 → decimal (10 + n) ≡ 49 ∷ padded_decimal 1 n
one_before_digit n digit =
    let ten : (10 + n) / 10 ≡ 1 = omega arith in
    let rest : (10 + n) % 10 ≡ n = omega arith in
    rw (decimal_step (10 + n) (omega arith) (omega arith), ten, rest, decimal_digit n digit, decimal_digit 1 (omega arith)) refl

one_before_more : (one k n : ℕ) → 0 < one → one * 10 + n < 2 ^ 64 → decimal (one + n / 10) ≡ 49 ∷ padded_decimal (suc k) (n / 10) → decimal (one * 10 + n) ≡ 49 ∷ padded_decimal (suc (suc k)) n
one_before_more one k n some small front =
    let ten : (one * 10 + n) / 10 ≡ one + n / 10 = omega arith in
    let rest : (one * 10 + n) % 10 ≡ n % 10 = omega arith in
    rw (decimal_step (one * 10 + n) (omega arith) small, ten, rest, front) (ap (λ (ds : List ℕ). 49 ∷ ds) (sym (padded_step k n (omega arith))))

-- a one in front of a padded number
pub one_before : (k n : ℕ) → n < 10 ^ suc k → 10 ^ suc k + n < 2 ^ 64 → decimal (10 ^ suc k + n) ≡ 49 ∷ padded_decimal (suc k) n
one_before zero n within small = one_before_digit n within
one_before (suc k) n within small =
    let tens : 10 ^ suc (suc k) ≡ 10 ^ suc k * 10 = pow-suc 10 (suc k) in
    let below : n < 10 ^ suc k * 10 = rw tens at within in
    let fits : 10 ^ suc k * 10 + n < 2 ^ 64 = rw tens at small in
    let front : decimal (10 ^ suc k + n / 10) ≡ 49 ∷ padded_decimal (suc k) (n / 10) = one_before k (n / 10) (omega arith) (omega arith) in
    rw tens (one_before_more (10 ^ suc k) k n (omega arith) fits front)

-- thirteen decimals of a number of parts of 8192
pub one_before_decimals : (parts : ℕ) → parts < 8192 → decimal (10000000000000 + parts * 5 ^ 13) ≡ 49 ∷ padded_decimal 13 (parts * 5 ^ 13)
one_before_decimals parts within = one_before 12 (parts * 5 ^ 13) (omega arith) (omega arith)

pub length_decimals : (parts : ℕ) → parts < 8192 → length (padded_decimal 13 (parts * 5 ^ 13)) ≡ 13
length_decimals parts within = padded_length 13 (parts * 5 ^ 13) (omega arith) (omega arith) (omega arith)

-- the fraction: the digits with a point in place of the one in front
pub fraction_bytes : (start parts : ℕ) (rest new : List ℕ) → parts < 8192 → start + length (decimal (10000000000000 + parts * 5 ^ 13)) ≡ 14 → drop start new ≡ decimal (10000000000000 + parts * 5 ^ 13) ++ rest →
    take 14 (slice_set new 0 46) ≡ 46 ∷ padded_decimal 13 (parts * 5 ^ 13)
fraction_bytes start parts rest new within end written =
    let e = one_before_decimals parts within in
    let l = length_decimals parts within in
    let zero : start ≡ 0 = (let f = ap length e in omega arith) in
    ap (λ xs. take 14 (slice_set xs 0 46)) (ap (λ n. drop n new) (sym zero) ∙ written ∙ ap (λ d. d ++ rest) e)
    ∙ ap (λ xs. 46 ∷ xs) (take_at (padded_decimal 13 (parts * 5 ^ 13)) rest 13 l)

pub fraction_length : (parts : ℕ) → parts < 8192 → length (decimal (10000000000000 + parts * 5 ^ 13)) ≤ 14
fraction_length parts within = length-decimal-le 14 (10000000000000 + parts * 5 ^ 13) (omega arith) (omega arith) (omega arith)
