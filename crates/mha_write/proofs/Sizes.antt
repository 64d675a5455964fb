-- The line of sizes, and what it says.
use Rattle.std.proofs.Common.{◌≡◌, ℕ, ◌+◌, ◌-◌, ◌<◌, ◌≤◌, ◌==◌, suc, List, [], ◌∷◌, ◌++◌, length, take, drop, filter, codes, Bool, true, false, nat_lt, if◌then◌else◌, refl, ap, sym, ◌∙◌, arith, subst, append_assoc, length-append}
use Rattle.std.specs.Prelude.{slice_index, reverse}
use Rattle.std.proofs.lemmas.Grind.{common_steps}
use Rattle.std.proofs.lemmas.List.{take_all, reverse-append}
use Rattle.std.proofs.lemmas.List.Elements.{All-from_recursion}
use Rattle.std.proofs.lemmas.List.Splits.{slice_split_none, slice_split_at}
use Rattle.std.specs.List.{AllByRecursion, All, list_all, list_any, prefix_len, suffix_len, before_first, after_first}
use Rattle.std.specs.Str.Lines.{strip_carriage_return}
use Rattle.list_words.proofs.Digits.{IsDigit}
use Rattle.formats.specs.Counts.{is_blank}
use Rattle.formats.specs.HeadLines.{Meaning, Nothing, Bad, Pair, meaning_of, pair_or_bad, trim_blanks}
use Rattle.formats.specs.Heads.{words_of}
use Rattle.mha_write.proofs.Digits.{not_blank}

-- the words of a value of three words
no_blank : (ws : List ℕ) → AllByRecursion IsDigit ws → AllByRecursion (λ b. is_blank b ≡ false) ws
no_blank [] h = tt
no_blank (b ∷ bs) h = (not_blank b h.0, no_blank bs h.1)

none_blank : (ws : List ℕ) → AllByRecursion IsDigit ws → All (λ b. is_blank b ≡ false) ws
none_blank ws h = All-from_recursion (λ b. is_blank b ≡ false) ws (no_blank ws h)

is_word : (w : List ℕ) → 0 < length w → nat_lt 0 (length w) ≡ true
is_word w h = grind (arith, common_steps)

pub three_words : (a b c : List ℕ) → AllByRecursion IsDigit a → AllByRecursion IsDigit b → AllByRecursion IsDigit c → 0 < length a → 0 < length b → 0 < length c → words_of (a ++ 32 ∷ (b ++ 32 ∷ c)) ≡ a ∷ b ∷ c ∷ []
three_words a b c da db dc la lb lc =
    ap (filter (λ w. nat_lt 0 (length w))) (
    slice_split_at is_blank a 32 (b ++ 32 ∷ c) (none_blank a da) refl
    ∙ ap (λ (ws : List (List ℕ)). a ∷ ws) (slice_split_at is_blank b 32 c (none_blank b db) refl ∙ ap (λ (ws : List (List ℕ)). b ∷ ws) (slice_split_none is_blank c (none_blank c dc))))
    ∙ (let x = is_word a la in let y = is_word b lb in let z = is_word c lc in rw (x, y, z) refl)

-- a value that begins and ends with digits, behind a blank
last_is : (xs : List ℕ) (x : ℕ) → slice_index (xs ++ x ∷ []) (length (xs ++ x ∷ []) - 1) ≡ x
last_is [] x = refl
last_is (y ∷ ys) x =
    let some : length (ys ++ x ∷ []) ≡ length ys + 1 = length-append ys (x ∷ []) in
    let e : suc (length (ys ++ x ∷ [])) - 1 ≡ suc (length (ys ++ x ∷ []) - 1) = omega arith in
    ap (λ (n : ℕ). slice_index (y ∷ (ys ++ x ∷ [])) n) e ∙ last_is ys x

stops : (b : ℕ) (bs : List ℕ) → is_blank b ≡ false → prefix_len is_blank (b ∷ bs) ≡ 0
stops b bs h = rw h refl

-- the text without the blanks at its end
abbrev without_end : List ℕ → List ℕ
without_end rest = take (length rest - suffix_len is_blank rest) rest

trimmed : (f x : ℕ) (m : List ℕ) → is_blank f ≡ false → is_blank x ≡ false → trim_blanks (32 ∷ f ∷ (m ++ x ∷ [])) ≡ f ∷ (m ++ x ∷ [])
trimmed f x m first last =
    let value : List ℕ = f ∷ (m ++ x ∷ []) in
    let front : 1 + prefix_len is_blank (f ∷ (m ++ x ∷ [])) ≡ 1 = ap (λ (n : ℕ). 1 + n) (stops f (m ++ x ∷ []) first) in
    let turned : reverse ((f ∷ m) ++ x ∷ []) ≡ x ∷ reverse (f ∷ m) = reverse-append (f ∷ m) (x ∷ []) in
    let end : suffix_len is_blank (f ∷ (m ++ x ∷ [])) ≡ 0 = ap (λ (zs : List ℕ). prefix_len is_blank zs) turned ∙ stops x (reverse (f ∷ m)) last in
    ap (λ (n : ℕ). without_end (drop n (32 ∷ f ∷ (m ++ x ∷ [])))) front
    ∙ ap (λ (n : ℕ). take (length value - n) value) end
    ∙ take_all (length value - 0) value (omega arith)

-- what the line of sizes says
abbrev said : List ℕ → Meaning
said line =
    if list_all is_blank line
    then Nothing
    else if list_any (λ b. b == 61) line
    then pair_or_bad (trim_blanks (before_first (λ b. b == 61) line)) (trim_blanks (after_first (λ b. b == 61) line))
    else Bad

value_meaning : (f x : ℕ) (m : List ℕ) → IsDigit f → IsDigit x → meaning_of (codes "DimSize = " ++ f ∷ (m ++ x ∷ [])) ≡ Pair (codes "DimSize") (f ∷ (m ++ x ∷ []))
value_meaning f x m first last =
    let low : 48 ≤ x = last.0 in
    let line : List ℕ = codes "DimSize = " ++ f ∷ (m ++ x ∷ []) in
    let end : slice_index line (length line - 1) ≡ x = last_is (codes "DimSize = " ++ f ∷ m) x in
    let digit : (x == 13) ≡ false = grind (arith, common_steps) in
    let other : (slice_index line (length line - 1) == 13) ≡ false = ap (λ (b : ℕ). b == 13) end ∙ digit in
    let same : strip_carriage_return line ≡ line = ap (λ (b : Bool). if b then take (length line - 1) line else line) other in
    ap said same ∙ ap (λ (v : List ℕ). Pair (codes "DimSize") v) (trimmed f x m (not_blank f first) (not_blank x last))

-- digits that end in one
pub record EndsInDigit (bs : List ℕ) : Type 0 where
  pub before : List ℕ
  pub digit : ℕ
  pub is : bs ≡ before ++ digit ∷ []
  pub is_digit : IsDigit digit

ends_in_digit : (b : ℕ) (bs : List ℕ) → AllByRecursion IsDigit (b ∷ bs) → EndsInDigit (b ∷ bs)
ends_in_digit b [] h = record { before = []; digit = b; is = refl; is_digit = h.0 }
ends_in_digit b (d ∷ ds) h =
    let e : EndsInDigit (d ∷ ds) = ends_in_digit d ds h.1 in
    record { before = b ∷ e.before; digit = e.digit; is = ap (λ (zs : List ℕ). b ∷ zs) e.is; is_digit = e.is_digit }

pub sizes_meaning : (a b c : List ℕ) → AllByRecursion IsDigit a → AllByRecursion IsDigit c → 0 < length a → 0 < length c → meaning_of (codes "DimSize = " ++ (a ++ 32 ∷ (b ++ 32 ∷ c))) ≡ Pair (codes "DimSize") (a ++ 32 ∷ (b ++ 32 ∷ c))
sizes_meaning [] b c da dc la lc = absurd (omega arith)
sizes_meaning (f ∷ m) b [] da dc la lc = absurd (omega arith)
sizes_meaning (f ∷ m) b (d ∷ ds) da dc la lc =
    let e : EndsInDigit (d ∷ ds) = ends_in_digit d ds dc in
    let parted : f ∷ ((m ++ 32 ∷ (b ++ 32 ∷ e.before)) ++ e.digit ∷ []) ≡ f ∷ (m ++ 32 ∷ (b ++ 32 ∷ (e.before ++ e.digit ∷ []))) = simp append_assoc in
    let same : f ∷ ((m ++ 32 ∷ (b ++ 32 ∷ e.before)) ++ e.digit ∷ []) ≡ f ∷ (m ++ 32 ∷ (b ++ 32 ∷ (d ∷ ds))) = parted ∙ ap (λ (zs : List ℕ). f ∷ (m ++ 32 ∷ (b ++ 32 ∷ zs))) (sym e.is) in
    subst (λ (v : List ℕ). meaning_of (codes "DimSize = " ++ v) ≡ Pair (codes "DimSize") v) same (value_meaning f e.digit (m ++ 32 ∷ (b ++ 32 ∷ e.before)) da.0 e.is_digit)
