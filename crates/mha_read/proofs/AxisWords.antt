-- The words of a spacing or an offset.
use Rattle.std.proofs.Common.{◌≡◌, ℕ, ◌+◌, List, [], ◌∷◌, length, map, Option, Some, None, Bool, true, false, ◌&&◌, ◌==◌, if◌then◌else◌, ℤ, pos, neg_ℤ, ◌^◌, refl, ap, ◌∙◌, arith}
use Rattle.std.specs.List.{list_all}
use Rattle.std.specs.Option.{option_map_or}
use Rattle.std.proofs.lemmas.Bool.{and_parts}
use Rattle.formats.specs.declared.Key.TheVariants.{Spacing, Offset}
use Rattle.formats.specs.Decimals.{is_decimal, is_between, decimal_units}
use Rattle.formats.specs.Heads.{value_of, words_of, dimensions}
use Rattle.mha_read.specs.declared.numbers.Numbers.{Numbers}
use Rattle.mha_read.specs.Axes.{first_between}
use Rattle.mha_read.specs.Faults.{AreFormed, AreSupported}
use Rattle.mha_read.proofs.Judged.{equal, formed_value, supported_value, three_dims}

-- how many decimals there are behind some others, where all words are decimals
abbrev pub decimal_tally : ℕ → List (List ℕ) → Option ℕ
decimal_tally n ws = if list_all is_decimal ws then Some (n + length ws) else None

-- the words are three numbers
pub record AreThree (low high : ℤ) (ws : List (List ℕ)) : Type 0 where
  pub numbers : Numbers
  pub is : first_between low high ws ≡ Some numbers
  pub list : numbers.x ∷ numbers.y ∷ numbers.z ∷ [] ≡ map decimal_units ws

three_words : (low high : ℤ) (ws : List (List ℕ)) → list_all (is_between low high) ws ≡ true → length ws ≡ 3 → AreThree low high ws
three_words low high [] all len = absurd (omega arith)
three_words low high (a ∷ []) all len = absurd (omega arith)
three_words low high (a ∷ b ∷ []) all len = absurd (omega arith)
three_words low high (a ∷ b ∷ c ∷ []) all len = record {
  numbers = record { x = decimal_units a; y = decimal_units b; z = decimal_units c };
  is = by_tests (is_between low high a) (is_between low high b) (is_between low high c) (record { x = decimal_units a; y = decimal_units b; z = decimal_units c }) all;
  list = refl;
}
  where
    by_tests : (p q r : Bool) (n : Numbers) → (p && (q && (r && true))) ≡ true → (if p && (q && r) then Some n else None) ≡ Some n
    by_tests true true true n h = refl
    by_tests true true false n h = cc
    by_tests true false r n h = cc
    by_tests false q r n h = cc
three_words low high (a ∷ b ∷ c ∷ d ∷ more) all len = absurd (omega arith)

count_is : (pairs : List (List ℕ × List ℕ)) (v : List ℕ) → AreFormed true pairs → AreSupported true pairs → (length (words_of v) == dimensions pairs && list_all is_decimal (words_of v)) ≡ true → length (words_of v) ≡ 3
count_is pairs v formed supported h =
    equal (length (words_of v)) (dimensions pairs) (and_parts (length (words_of v) == dimensions pairs) (list_all is_decimal (words_of v)) h).0 ∙ three_dims true pairs formed supported

pub spacing_words : (pairs : List (List ℕ × List ℕ)) (v : List ℕ) → AreFormed true pairs → AreSupported true pairs → Some v ≡ value_of pairs Spacing → AreThree (pos 0) (pos (10 ^ 21)) (words_of v)
spacing_words pairs v formed supported is =
    three_words (pos 0) (pos (10 ^ 21)) (words_of v) (supported_value true pairs Spacing v refl supported is) (count_is pairs v formed supported (formed_value true pairs Spacing v refl formed is))

pub offset_words : (pairs : List (List ℕ × List ℕ)) (v : List ℕ) → AreFormed true pairs → AreSupported true pairs → Some v ≡ value_of pairs Offset → AreThree (neg_ℤ (pos (10 ^ 24))) (pos (10 ^ 24)) (words_of v)
offset_words pairs v formed supported is =
    three_words (neg_ℤ (pos (10 ^ 24))) (pos (10 ^ 24)) (words_of v) (supported_value true pairs Offset v refl supported is) (count_is pairs v formed supported (formed_value true pairs Offset v refl formed is))

-- no numbers are none of three words
pub some_numbers : {low high : ℤ} {ws : List (List ℕ)} → AreThree low high ws → None ≡ first_between low high ws → ⊥
some_numbers words none = let e : None ≡ Some words.numbers = none ∙ words.is in cc

-- three answers, each under a test

pub second_none : {X Y : Type 0} (p q r : Bool) (a : X) (all : Y) → None ≡ (if q then Some a else None) → None ≡ (if p && (q && r) then Some all else None)
second_none p true r a all e = cc
second_none true false r a all e = refl
second_none false false r a all e = refl

pub third_none : {X Y : Type 0} (p q r : Bool) (a : X) (all : Y) → None ≡ (if r then Some a else None) → None ≡ (if p && (q && r) then Some all else None)
third_none p q true a all e = cc
third_none true true false a all e = refl
third_none true false false a all e = refl
third_none false q false a all e = refl

passed : {X : Type 0} (p : Bool) (x a : X) → Some x ≡ (if p then Some a else None) → (p ≡ true) × (x ≡ a)
passed true x a e = (refl, cc)
passed false x a e = cc

abbrev pub three : ℤ → ℤ → ℤ → Numbers
three x y z = record { x = x; y = y; z = z }

pub three_passed : (p q r : Bool) (x y z a b c : ℤ) → Some x ≡ (if p then Some a else None) → Some y ≡ (if q then Some b else None) → Some z ≡ (if r then Some c else None) → Some (three x y z) ≡ (if p && (q && r) then Some (three a b c) else None)
three_passed p q r x y z a b c e f g =
    let h : (p && (q && r)) ≡ true = ap (λ (t : Bool). t && (q && r)) (passed p x a e).0 ∙ ap (λ (t : Bool). t && r) (passed q y b f).0 ∙ (passed r z c g).0 in
    rw h (λ i. Some (three ((passed p x a e).1 i) ((passed q y b f).1 i) ((passed r z c g).1 i)))

-- the numbers that are read are those of the value
pub numbers_list : {low high : ℤ} {v : List ℕ} {n : Numbers} {found : Option (List ℕ)} (absent : List ℤ) → AreThree low high (words_of v) → Some n ≡ first_between low high (words_of v) → Some v ≡ found → n.x ∷ n.y ∷ n.z ∷ [] ≡ option_map_or (λ w. map decimal_units (words_of w)) found absent
numbers_list {n = n} absent words e is =
    let f : Some n ≡ Some words.numbers = e ∙ words.is in
    let same : n ≡ words.numbers = cc in
    ap (λ (m : Numbers). m.x ∷ m.y ∷ m.z ∷ []) same ∙ words.list ∙ ap (λ (o : Option (List ℕ)). option_map_or (λ w. map decimal_units (words_of w)) o absent) is
