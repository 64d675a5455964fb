-- Numbers and coordinates, as they are written, are read as what they are.
use Rattle.std.proofs.Common.{◌≡◌, ℕ, zero, suc, ◌+◌, ◌-◌, ◌*◌, ◌/◌, ◌%◌, ◌^◌, ◌<◌, ◌≤◌, ◌==◌, ◌&&◌, ◌||◌, not, nat_le, nat_lt, if◌then◌else◌, List, [], ◌∷◌, ◌++◌, length, take, drop, replicate, get_or, codes, decimal, Bool, true, false, refl, ap, sym, subst, ◌∙◌, arith, ℤ, pos, negsuc, unsigned_abs, int_lt}
use Rattle.std.proofs.lemmas.Bool.{lt-ltb, le-ltb, le-leb, eq-eqb, ne_eqb, and_from, or_left, or_right}
use Rattle.std.proofs.lemmas.Fmt.{decimal_is_IsNumeral, decimal_nonempty, decimal_digit, first_decimal}
use Rattle.std.proofs.lemmas.List.{length-append}
use Rattle.std.specs.List.{AllByRecursion, list_all, before_first, after_first, position_or_len}
use Rattle.std.specs.Char.{is_ascii_digit}
use Rattle.std.specs.Str.Parse.{digits_value}
use Rattle.list_words.proofs.Digits.{IsDigit, all_digits, are_digits, padded_length}
use Rattle.mesh_texts.specs.Coordinates.{padded_decimal, coordinate_text}
use Rattle.mesh_files.specs.Numbers.{greatest_number, is_number, is_the_number, is_minus, without_sign, whole_digits, fraction_digits, is_decimal, are_units, units, signed, is_coordinate, coordinate}
use Rattle.mesh_files.proofs.Digits.{digits_append, zeros_are_zero}
use Rattle.mesh_files.proofs.GridUnits.{are_units_from}
use Rattle.audit_laws.proofs.Fields.{IsPlain, IsField, both}

plain_digits : (bs : List ℕ) → AllByRecursion IsDigit bs → AllByRecursion IsPlain bs
plain_digits [] h = tt
plain_digits (b ∷ bs) h = ((omega (arith, h.0.0), h.0.1), plain_digits bs h.1)

pub number_field : (n : ℕ) → n < 2 ^ 64 → IsField (decimal n)
number_field n h = record { some = decimal_nonempty n h; plain = plain_digits (decimal n) (all_digits n h) }

pub number_value : (n : ℕ) → n < 2 ^ 64 → digits_value 10 (decimal n) ≡ n
number_value n h = (decimal_is_IsNumeral n h).1

-- no zero stands in front of other digits
no_zero_first : (n : ℕ) → n < 2 ^ 64 → (length (decimal n) == 1 || not (get_or (decimal n) 0 0 == 48)) ≡ true
no_zero_first zero h = or_left _ _ (eq-eqb (length (decimal 0)) 1 (ap length (decimal_digit 0 (omega arith))))
no_zero_first (suc n) h =
    let above : 48 < get_or (decimal (suc n)) 0 0 = first_decimal (suc n) (omega arith) h in
    or_right _ _ (ap not (ne_eqb (get_or (decimal (suc n)) 0 0) 48 (λ e. omega arith)))

pub number_is : (n : ℕ) → n ≤ 4294967294 → is_number (decimal n) ≡ true
number_is n h =
    let big : n < 2 ^ 64 = omega arith in
    let small : nat_le (digits_value 10 (decimal n)) greatest_number ≡ true = le-leb (digits_value 10 (decimal n)) 4294967294 (omega (arith, number_value n big)) in
    and_from _ _ (lt-ltb 0 (length (decimal n)) (decimal_nonempty n big))
    (and_from _ _ (are_digits (decimal n) (all_digits n big))
    (and_from _ _ (no_zero_first n big) small))

pub the_number : (n : ℕ) → n ≤ 4294967294 → is_the_number n (decimal n) ≡ true
the_number n h = and_from _ _ (number_is n h) (eq-eqb _ n (number_value n (omega arith)))

-- the fraction of a coordinate
fraction_small : (m : ℕ) → m % 8192 * 5 ^ 13 < 10 ^ 13
fraction_small m = let h : m % 8192 < 8192 = omega arith in omega arith

zeros_digits : (k : ℕ) → AllByRecursion IsDigit (replicate k 48)
zeros_digits zero = tt
zeros_digits (suc k) = ((omega arith, omega arith), zeros_digits k)

zeros_all : (k : ℕ) → list_all (λ b. b == 48) (replicate k 48) ≡ true
zeros_all zero = refl
zeros_all (suc k) = zeros_all k

padded_digits : (k n : ℕ) → n < 2 ^ 64 → AllByRecursion IsDigit (padded_decimal k n)
padded_digits k n h = both IsDigit (replicate (k - length (decimal n)) 48) (decimal n) (zeros_digits (k - length (decimal n))) (all_digits n h)

padded_value : (k n : ℕ) → n < 2 ^ 64 → digits_value 10 (padded_decimal k n) ≡ n
padded_value k n h =
    digits_append (replicate (k - length (decimal n)) 48) (decimal n)
    ∙ (λ i. zeros_are_zero (replicate (k - length (decimal n)) 48) (zeros_all (k - length (decimal n))) i * 10 ^ length (decimal n) + number_value n h i)
    ∙ nothing_more (10 ^ length (decimal n)) n
  where
    nothing_more : (p n : ℕ) → 0 * p + n ≡ n
    nothing_more p n = omega arith

-- a whole part, a point and a fraction
abbrev pointed : List ℕ → List ℕ → List ℕ
pointed whole fraction = whole ++ 46 ∷ fraction

abbrev is_point : ℕ → Bool
is_point b = b == 46

point_at : (whole fraction : List ℕ) → AllByRecursion IsDigit whole → position_or_len is_point (pointed whole fraction) ≡ length whole
point_at [] fraction h = refl
point_at (b ∷ bs) fraction h =
    let other : is_point b ≡ false = ne_eqb b 46 (λ e. omega (arith, h.0.0)) in
    let rest : position_or_len is_point (pointed bs fraction) ≡ length bs = point_at bs fraction h.1 in
    rw other (omega (arith, rest))

before_point : (whole fraction : List ℕ) → AllByRecursion IsDigit whole → before_first is_point (pointed whole fraction) ≡ whole
before_point whole fraction h = ap (λ (n : ℕ). take n (pointed whole fraction)) (point_at whole fraction h) ∙ front whole
  where
    front : (xs : List ℕ) → take (length xs) (xs ++ 46 ∷ fraction) ≡ xs
    front [] = refl
    front (x ∷ xs) = ap (λ ys. x ∷ ys) (front xs)

after_point : (whole fraction : List ℕ) → AllByRecursion IsDigit whole → after_first is_point (pointed whole fraction) ≡ fraction
after_point whole fraction h = ap (λ (n : ℕ). drop (n + 1) (pointed whole fraction)) (point_at whole fraction h) ∙ back whole
  where
    back : (xs : List ℕ) → drop (length xs + 1) (xs ++ 46 ∷ fraction) ≡ fraction
    back [] = refl
    back (x ∷ xs) = ap (λ (n : ℕ). drop n (x ∷ (xs ++ 46 ∷ fraction))) (more (length xs)) ∙ back xs
      where
        more : (n : ℕ) → suc n + 1 ≡ suc (n + 1)
        more n = omega arith

-- what is read of a coordinate's text without its sign
record IsRead (text : List ℕ) (minus : Bool) (m : ℕ) : Type 0 where
  form : is_decimal text ≡ true
  grid : is_coordinate text ≡ true
  value : coordinate text ≡ signed minus m

abbrev whole_of : ℕ → List ℕ
whole_of m = decimal (m / 8192)

abbrev fraction_of : ℕ → List ℕ
fraction_of m = padded_decimal 13 (m % 8192 * 5 ^ 13)

read_parts : (text : List ℕ) (minus : Bool) (m : ℕ) → m < 2 ^ 33 → without_sign text ≡ pointed (whole_of m) (fraction_of m) → is_minus text ≡ minus → IsRead text minus m
unfolding is_decimal
read_parts text minus m small parts sign =
    let big : m / 8192 < 2 ^ 64 = omega arith in
    let few : m % 8192 * 5 ^ 13 < 2 ^ 64 = omega (arith, fraction_small m) in
    let whole_digit = all_digits (m / 8192) big in
    let whole : whole_digits text ≡ whole_of m = ap (before_first is_point) parts ∙ before_point (whole_of m) (fraction_of m) whole_digit in
    let fraction : fraction_digits text ≡ fraction_of m = ap (after_first is_point) parts ∙ after_point (whole_of m) (fraction_of m) whole_digit in
    let some : nat_lt 0 (length (whole_of m) + length (fraction_of m)) ≡ true = lt-ltb 0 (length (whole_of m) + length (fraction_of m)) (omega (arith, decimal_nonempty (m / 8192) big)) in
    let digits_w : list_all is_ascii_digit (whole_of m) ≡ true = are_digits (whole_of m) whole_digit in
    let digits_f : list_all is_ascii_digit (fraction_of m) ≡ true = are_digits (fraction_of m) (padded_digits 13 (m % 8192 * 5 ^ 13) few) in
    let below : digits_value 10 (whole_of m) < 1048576 = omega (arith, number_value (m / 8192) big) in
    let len : length (fraction_of m) ≡ 13 = padded_length 13 (m % 8192 * 5 ^ 13) (omega arith) (fraction_small m) few in
    let exact : digits_value 10 (fraction_of m) * 8192 ≡ m % 8192 * 10 ^ length (fraction_of m) = ap (λ n. n * 8192) (padded_value 13 (m % 8192 * 5 ^ 13) few) ∙ by_five (m % 8192) ∙ ap (λ n. m % 8192 * 10 ^ n) (sym len) in
    let unit = are_units_from (whole_of m) (fraction_of m) (m % 8192) digits_f below exact in
    record {
      form = (λ i. nat_lt 0 (length (whole i) + length (fraction i)) && (list_all is_ascii_digit (whole i) && list_all is_ascii_digit (fraction i))) ∙ and_from _ _ some (and_from _ _ digits_w digits_f);
      grid = (λ i. are_units (whole i) (fraction i)) ∙ unit.0;
      value = (λ i. signed (sign i) (units (whole i) (fraction i))) ∙ ap (signed minus) (unit.1 ∙ ap (λ n. n * 8192 + m % 8192) (number_value (m / 8192) big) ∙ joined m);
    }
  where
    by_five : (n : ℕ) → n * 5 ^ 13 * 8192 ≡ n * 10 ^ 13
    by_five n = omega arith

    joined : (m : ℕ) → m / 8192 * 8192 + m % 8192 ≡ m
    joined m = omega arith

-- what is known of the text of a coordinate
pub record IsCoordinateText (z : ℤ) : Type 0 where
  pub field : IsField (coordinate_text z)
  pub form : is_decimal (coordinate_text z) ≡ true
  pub grid : is_coordinate (coordinate_text z) ≡ true
  pub value : coordinate (coordinate_text z) ≡ z

digits_plain : (m : ℕ) → m < 2 ^ 33 → AllByRecursion IsPlain (pointed (whole_of m) (fraction_of m))
digits_plain m small =
    let few : m % 8192 * 5 ^ 13 < 2 ^ 64 = omega (arith, fraction_small m) in
    both IsPlain (whole_of m) (46 ∷ fraction_of m) (plain_digits (whole_of m) (all_digits (m / 8192) (omega arith)))
    ((omega arith, omega arith), plain_digits (fraction_of m) (padded_digits 13 (m % 8192 * 5 ^ 13) few))

-- a text that begins with a digit has no sign
begins : (whole rest : List ℕ) → 0 < length whole → AllByRecursion IsDigit whole → (without_sign (whole ++ rest) ≡ whole ++ rest) × (is_minus (whole ++ rest) ≡ false)
begins [] rest some h = absurd (omega arith)
begins (b ∷ bs) rest some h =
    let plus : (b == 43) ≡ false = ne_eqb b 43 (λ e. omega (arith, h.0.0)) in
    let minus : (b == 45) ≡ false = ne_eqb b 45 (λ e. omega (arith, h.0.0)) in
    (rw (plus, minus) refl, minus)

pub coordinate_back : (z : ℤ) → unsigned_abs z < 2 ^ 33 → IsCoordinateText z
coordinate_back (pos m) small =
    let some = decimal_nonempty (m / 8192) (omega arith) in
    let sign = begins (whole_of m) (46 ∷ fraction_of m) some (all_digits (m / 8192) (omega arith)) in
    let text : coordinate_text (pos m) ≡ pointed (whole_of m) (fraction_of m) = ap (λ (b : Bool). (if b then codes "-" else []) ++ pointed (whole_of m) (fraction_of m)) (not_below m) in
    let parts = read_parts (coordinate_text (pos m)) false m small (ap without_sign text ∙ sign.0) (ap is_minus text ∙ sign.1) in
    record {
      field = record { some = omega (arith, ap length text, some, length-append (whole_of m) (46 ∷ fraction_of m)); plain = subst (AllByRecursion IsPlain) (sym text) (digits_plain m small) };
      form = parts.form;
      grid = parts.grid;
      value = parts.value;
    }
  where
    not_below : (n : ℕ) → int_lt (pos n) (pos 0) ≡ false
    not_below n = le-ltb n 0 (omega arith)
coordinate_back (negsuc m) small =
    let parts = read_parts (coordinate_text (negsuc m)) true (suc m) small refl refl in
    record {
      field = record { some = omega arith; plain = ((omega arith, omega arith), digits_plain (suc m) small) };
      form = parts.form;
      grid = parts.grid;
      value = parts.value;
    }
