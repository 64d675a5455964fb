-- Decimals that are put together from parts.
use Rattle.std.proofs.Common.{◌≡◌, ℕ, zero, suc, ◌+◌, ◌*◌, ◌/◌, ◌%◌, ◌^◌, ◌<◌, ◌≤◌, List, [], ◌∷◌, ◌++◌, length, drop, decimal, refl, ap, sym, ◌∙◌, subst, arith, append_assoc, length-append}
use Rattle.std.proofs.Math.Nat.{pow-suc, mul_assoc}
use Rattle.std.proofs.lemmas.Fmt.{decimal_digit}
use Rattle.list_words.proofs.Digits.{padded_length}
use Rattle.mesh_texts.specs.Coordinates.{padded_decimal}
use Rattle.node_ele_write.proofs.Decimals.{padded_step, one_before}

-- one digit alone
one_digit : (y : ℕ) → y < 10 → padded_decimal 1 y ≡ (48 + y) ∷ []
one_digit y digit = rw (decimal_digit y digit) refl

-- more digits behind others
padded_joined : (a b x y : ℕ) → y < 10 ^ suc b → x * 10 ^ suc b + y < 10 ^ 64 → padded_decimal (suc a + suc b) (x * 10 ^ suc b + y) ≡ padded_decimal (suc a) x ++ padded_decimal (suc b) y
padded_joined a zero x y below small =
    let digit : y < 10 = below in
    let more : suc a + 1 ≡ suc (suc a) = omega arith in
    let tens : (x * 10 + y) / 10 ≡ x = omega arith in
    let ones : (x * 10 + y) % 10 ≡ y = omega arith in
    let step : padded_decimal (suc (suc a)) (x * 10 + y) ≡ padded_decimal (suc a) ((x * 10 + y) / 10) ++ ((48 + (x * 10 + y) % 10) ∷ []) = padded_step a (x * 10 + y) small in
    rw more (step ∙ (λ i. padded_decimal (suc a) (tens i) ++ ((48 + ones i) ∷ [])) ∙ ap (λ (ds : List ℕ). padded_decimal (suc a) x ++ ds) (sym (one_digit y digit)))
padded_joined a (suc b) x y below small =
    let power : 10 ^ suc (suc b) ≡ 10 ^ suc b * 10 = pow-suc 10 (suc b) in
    let product : x * 10 ^ suc (suc b) ≡ x * 10 ^ suc b * 10 = ap (λ (p : ℕ). x * p) power ∙ sym (mul_assoc x (10 ^ suc b) 10) in
    let n : ℕ = x * 10 ^ suc (suc b) + y in
    let tens : n / 10 ≡ x * 10 ^ suc b + y / 10 = omega (arith, product) in
    let ones : n % 10 ≡ y % 10 = omega (arith, product) in
    let more : suc a + suc (suc b) ≡ suc (suc (a + suc b)) = omega arith in
    let front : suc a + suc b ≡ suc (a + suc b) = omega arith in
    let step : padded_decimal (suc (suc (a + suc b))) n ≡ padded_decimal (suc (a + suc b)) (n / 10) ++ ((48 + n % 10) ∷ []) = padded_step (a + suc b) n small in
    let before : padded_decimal (suc a + suc b) (x * 10 ^ suc b + y / 10) ≡ padded_decimal (suc a) x ++ padded_decimal (suc b) (y / 10) = padded_joined a b x (y / 10) (omega (arith, power)) (omega (arith, product)) in
    let last : padded_decimal (suc (suc b)) y ≡ padded_decimal (suc b) (y / 10) ++ ((48 + y % 10) ∷ []) = padded_step b y (omega (arith, power, product)) in
    ap (λ (w : ℕ). padded_decimal w n) more ∙ step
    ∙ (λ i. padded_decimal (suc (a + suc b)) (tens i) ++ ((48 + ones i) ∷ []))
    ∙ ap (λ (w : ℕ). padded_decimal w (x * 10 ^ suc b + y / 10) ++ ((48 + y % 10) ∷ [])) (sym front)
    ∙ ap (λ (ds : List ℕ). ds ++ ((48 + y % 10) ∷ [])) before
    ∙ append_assoc (padded_decimal (suc a) x) (padded_decimal (suc b) (y / 10)) ((48 + y % 10) ∷ [])
    ∙ ap (λ (ds : List ℕ). padded_decimal (suc a) x ++ ds) (sym last)

-- twelve, nine and ten decimals are 31
pub decimals_joined : (f m n : ℕ) (old l1 l2 l3 : List ℕ) → f < 10 ^ 12 → m < 10 ^ 9 → n < 10 ^ 10 → l1 ≡ padded_decimal 10 n ++ old → l2 ≡ padded_decimal 9 m ++ l1 → l3 ≡ padded_decimal 12 f ++ l2 → l3 ≡ padded_decimal 31 ((f * 10 ^ 9 + m) * 10 ^ 10 + n) ++ old
decimals_joined f m n old l1 l2 l3 few middle last e1 e2 e3 =
    let front : padded_decimal 21 (f * 10 ^ 9 + m) ≡ padded_decimal 12 f ++ padded_decimal 9 m = padded_joined 11 8 f m middle (omega arith) in
    let all : padded_decimal 31 ((f * 10 ^ 9 + m) * 10 ^ 10 + n) ≡ padded_decimal 21 (f * 10 ^ 9 + m) ++ padded_decimal 10 n = padded_joined 20 9 (f * 10 ^ 9 + m) n last (omega arith) in
    e3 ∙ ap (λ (t : List ℕ). padded_decimal 12 f ++ t) (e2 ∙ ap (λ (t : List ℕ). padded_decimal 9 m ++ t) e1)
    ∙ sym (append_assoc (padded_decimal 12 f) (padded_decimal 9 m) (padded_decimal 10 n ++ old))
    ∙ ap (λ (t : List ℕ). t ++ (padded_decimal 10 n ++ old)) (sym front)
    ∙ sym (append_assoc (padded_decimal 21 (f * 10 ^ 9 + m)) (padded_decimal 10 n) old)
    ∙ ap (λ (t : List ℕ). t ++ old) (sym all)

-- a number behind a one that is dropped
pub digits_put : (k one n : ℕ) (old more less : List ℕ) → 0 < k → one ≡ 10 ^ k → n < one → one ≤ 10 ^ 18 → more ≡ decimal (one + n) ++ old → less ≡ drop 1 more → less ≡ padded_decimal k n ++ old
digits_put zero one n old more less some e below small m l = absurd (omega arith)
digits_put (suc k) one n old more less some e below small m l =
    let front : decimal (10 ^ suc k + n) ≡ 49 ∷ padded_decimal (suc k) n = one_before k n (omega (arith, e)) (omega (arith, e)) in
    let is : more ≡ 49 ∷ (padded_decimal (suc k) n ++ old) = m ∙ ap (λ (p : ℕ). decimal (p + n) ++ old) e ∙ ap (λ (t : List ℕ). t ++ old) front in
    l ∙ ap (drop 1) is

pub digits_length : (k one n : ℕ) (old less : List ℕ) → 0 < k → one ≡ 10 ^ k → n < one → one ≤ 10 ^ 18 → less ≡ padded_decimal k n ++ old → length less ≡ length old + k
digits_length k one n old less some e below small l =
    omega (arith, ap length l, length-append (padded_decimal k n) old, padded_length k n some (subst (λ (p : ℕ). n < p) e below) (omega arith))
