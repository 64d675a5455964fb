-- The number that digits write, from their parts.
use Rattle.std.proofs.Common.{◌≡◌, ℕ, ◌+◌, ◌-◌, ◌*◌, ◌^◌, ◌<◌, ◌≤◌, List, [], ◌∷◌, ◌++◌, length, drop, get_or, Bool, true, false, ◌&&◌, nat_le, Some, None, if◌then◌else◌, refl, sym, ap, ◌∙◌, arith, zero, suc}
use Rattle.std.proofs.lemmas.Bool.Decides.{nat_tests}
use Rattle.std.proofs.lemmas.Bool.{and_parts, leb-true, leb-false}
use Rattle.std.proofs.lemmas.List.{at_drop_more}
use Rattle.std.specs.List.{list_all}
use Rattle.std.specs.Char.{is_ascii_digit, digit_value}
use Rattle.std.specs.Str.Parse.{digits_value, digits_value_after}
use Rattle.list_words.proofs.Digits.{digits_grow}

pub digit_is : (b : ℕ) → is_ascii_digit b ≡ true → digit_value b ≡ b - 48
digit_is b h = grind (arith, nat_tests)

pub digit_small : (b : ℕ) → is_ascii_digit b ≡ true → digit_value b < 10
digit_small b h = grind (arith, nat_tests)

pub one_more_digit : (digits : List ℕ) (i n : ℕ) → i < length digits → list_all is_ascii_digit (drop i digits) ≡ true → digits_value_after 10 n (drop i digits) ≡ digits_value 10 digits → n * 10 + (get_or digits i 0 - 48) ≤ digits_value 10 digits
one_more_digit digits i n lt all e =
    let more : digits_value_after 10 n (drop i digits) ≡ digits_value_after 10 (n * 10 + digit_value (get_or digits i 0)) (drop (i + 1) digits) = at_drop_more (digits_value_after 10 n) digits i 0 lt in
    let rest : list_all is_ascii_digit (drop i digits) ≡ (is_ascii_digit (get_or digits i 0) && list_all is_ascii_digit (drop (i + 1) digits)) = at_drop_more (list_all is_ascii_digit) digits i 0 lt in
    let digit = digit_is (get_or digits i 0) (and_parts _ _ (sym rest ∙ all)).0 in
    let grows = digits_grow (n * 10 + digit_value (get_or digits i 0)) (drop (i + 1) digits) in
    omega (arith, more, digit, grows)

after_append : (n : ℕ) (xs ys : List ℕ) → digits_value_after 10 n (xs ++ ys) ≡ digits_value_after 10 (digits_value_after 10 n xs) ys
after_append n [] ys = refl
after_append n (x ∷ xs) ys = after_append (n * 10 + digit_value x) xs ys

after_is : (n : ℕ) (ys : List ℕ) → digits_value_after 10 n ys ≡ n * 10 ^ length ys + digits_value 10 ys
after_is n [] = omega arith
after_is n (y ∷ ys) =
    let a = after_is (n * 10 + digit_value y) ys in
    let b = after_is (0 * 10 + digit_value y) ys in
    let p : 10 ^ length (y ∷ ys) ≡ 10 ^ length ys * 10 = Rattle.std.proofs.Math.Nat.pow-suc 10 (length ys) in
    a ∙ regroup n (digit_value y) (10 ^ length ys) (digits_value 10 ys) ∙ (λ i. n * sym p i + sym b i)
  where
    regroup : (n d p v : ℕ) → (n * 10 + d) * p + v ≡ n * (p * 10) + ((0 * 10 + d) * p + v)
    regroup n d p v = omega arith

-- digits behind others
pub digits_append : (xs ys : List ℕ) → digits_value 10 (xs ++ ys) ≡ digits_value 10 xs * 10 ^ length ys + digits_value 10 ys
digits_append xs ys = after_append 0 xs ys ∙ after_is (digits_value 10 xs) ys

pub ten_positive : (k : ℕ) → 0 < 10 ^ k
ten_positive zero = omega arith
ten_positive (suc k) = let h = ten_positive k in let p : 10 ^ suc k ≡ 10 ^ k * 10 = Rattle.std.proofs.Math.Nat.pow-suc 10 k in omega arith

-- so many digits write less than so large a power of ten
pub digits_below : (ds : List ℕ) → list_all is_ascii_digit ds ≡ true → digits_value 10 ds < 10 ^ length ds
digits_below [] h = omega arith
digits_below (d ∷ ds) h =
    let parts = and_parts (is_ascii_digit d) (list_all is_ascii_digit ds) h in
    let rest = digits_below ds parts.1 in
    let digit = digit_small d parts.0 in
    let v : digits_value 10 (d ∷ ds) ≡ (0 * 10 + digit_value d) * 10 ^ length ds + digits_value 10 ds = after_is (0 * 10 + digit_value d) ds in
    let p : 10 ^ length (d ∷ ds) ≡ 10 ^ length ds * 10 = Rattle.std.proofs.Math.Nat.pow-suc 10 (length ds) in
    below (digits_value 10 (d ∷ ds)) (digit_value d) (10 ^ length ds) (digits_value 10 ds) (10 ^ length (d ∷ ds)) v p rest digit
  where
    below : (n d p v q : ℕ) → n ≡ (0 * 10 + d) * p + v → q ≡ p * 10 → v < p → d < 10 → n < q
    below n d p v q e f h g = let m : d * p ≤ 9 * p = Rattle.std.proofs.Math.Nat.mul-le-mul_right p (omega arith) in omega (arith, m)

-- zeros alone write zero, and nothing else does
pub zeros_are_zero : (ds : List ℕ) → list_all (λ b. Rattle.std.proofs.Common.eqb b 48) ds ≡ true → digits_value 10 ds ≡ 0
zeros_are_zero [] h = refl
zeros_are_zero (d ∷ ds) h =
    let parts = and_parts _ _ h in
    let zero_digit : d ≡ 48 = Rattle.std.proofs.lemmas.Bool.eqb-true d 48 parts.0 in
    ap (λ (n : ℕ). digits_value 10 (n ∷ ds)) zero_digit ∙ zeros_are_zero ds parts.1

pub zero_is_zeros : (ds : List ℕ) → list_all is_ascii_digit ds ≡ true → digits_value 10 ds ≡ 0 → list_all (λ b. Rattle.std.proofs.Common.eqb b 48) ds ≡ true
zero_is_zeros [] h e = refl
zero_is_zeros (d ∷ ds) h e =
    let parts = and_parts (is_ascii_digit d) (list_all is_ascii_digit ds) h in
    let v : digits_value 10 (d ∷ ds) ≡ (0 * 10 + digit_value d) * 10 ^ length ds + digits_value 10 ds = after_is (0 * 10 + digit_value d) ds in
    let none : digit_value d ≡ 0 = no_digit (digit_value d) (10 ^ length ds) (digits_value 10 ds) (sym v ∙ e) (ten_positive (length ds)) in
    let digit = digit_is d parts.0 in
    let first : d ≡ 48 = is_zero d parts.0 (sym digit ∙ none) in
    let rest : digits_value 10 ds ≡ 0 = no_rest (digit_value d) (10 ^ length ds) (digits_value 10 ds) (sym v ∙ e) in
    Rattle.std.proofs.lemmas.Bool.and_from _ _ (Rattle.std.proofs.lemmas.Bool.eq-eqb d 48 first) (zero_is_zeros ds parts.1 rest)
  where
    no_digit : (d p v : ℕ) → (0 * 10 + d) * p + v ≡ 0 → 0 < p → d ≡ 0
    no_digit zero p v e h = refl
    no_digit (suc d) p v e h = absurd (omega (arith, e))

    no_rest : (d p v : ℕ) → (0 * 10 + d) * p + v ≡ 0 → v ≡ 0
    no_rest d p v e = omega arith

    is_zero : (d : ℕ) → is_ascii_digit d ≡ true → d - 48 ≡ 0 → d ≡ 48
    is_zero d h e = grind (arith, nat_tests)

-- what an answer says of a number that must not be above a greatest
pub too_large : (n most : ℕ) → (if nat_le n most then Some n else None) ≡ None → most < n
too_large n most e = by_test (nat_le n most) refl
  where
    by_test : (b : Bool) → nat_le n most ≡ b → most < n
    by_test true h = let f : Some n ≡ None = ap (λ (b : Bool). if b then Some n else None) (sym h) ∙ e in cc
    by_test false h = leb-false n most h

pub not_too_large : (n most m : ℕ) → (if nat_le n most then Some n else None) ≡ Some m → (m ≡ n) × (n ≤ most)
not_too_large n most m e = by_test (nat_le n most) refl
  where
    by_test : (b : Bool) → nat_le n most ≡ b → (m ≡ n) × (n ≤ most)
    by_test true h = let f : Some n ≡ Some m = ap (λ (b : Bool). if b then Some n else None) (sym h) ∙ e in let g : m ≡ n = cc in (g, leb-true n most h)
    by_test false h = let f : None ≡ Some m = ap (λ (b : Bool). if b then Some n else None) (sym h) ∙ e in cc
