-- The words of a text, parted by blanks.
use Rattle.std.proofs.Common.{◌≡◌, ℕ, ◌+◌, ◌-◌, ◌<◌, ◌≤◌, ◌==◌, suc, List, [], ◌∷◌, length, take, drop, filter, Bool, true, false, not, nat_lt, refl, ap, sym, ◌∙◌, subst, arith, get_or, length-drop, drop-cons, add-one}
use Rattle.std.proofs.lemmas.Grind.{common_steps}
use Rattle.std.proofs.lemmas.Bool.{ltb-true, ltb-false}
use Rattle.std.proofs.lemmas.List.{take_all, length-take}
use Rattle.std.proofs.lemmas.List.Sums.{prefix_len_stops, prefix_len-le-length, fails_before_first, passes_at_first}
use Rattle.std.proofs.lemmas.List.Splits.{slice_split_none, slice_split_first, slice_split-cons_yes}
use Rattle.std.proofs.Math.ListN.{drop_of_length-le}
use Rattle.std.specs.List.{slice_split, prefix_len, position_or_len}
use Rattle.formats.specs.Counts.{is_blank}
use Rattle.formats.specs.Heads.{words_of}

pub zero_is : (n : ℕ) → (n == 0) ≡ true → n ≡ 0
zero_is n h = grind (arith, common_steps)

pub some_is : (n : ℕ) → (n == 0) ≡ false → 0 < n
some_is n h = grind (arith, common_steps)

abbrev is_word : List ℕ → Bool
is_word w = nat_lt 0 (length w)

pub tail_is : (n : ℕ) (xs : List ℕ) → take (length xs - n) (drop n xs) ≡ drop n xs
tail_is n xs = take_all (length xs - n) (drop n xs) (omega (arith, length-drop n xs))

filter_word : (w : List ℕ) (ws : List (List ℕ)) → 0 < length w → filter is_word (w ∷ ws) ≡ w ∷ filter is_word ws
filter_word w ws h = let t : nat_lt 0 (length w) ≡ true = grind (arith, common_steps) in rw t refl

-- blanks at the front are passed over
words_behind : (b : ℕ) (xs : List ℕ) → is_blank b ≡ true → words_of (b ∷ xs) ≡ words_of xs
words_behind b xs blank = ap (filter is_word) (slice_split-cons_yes is_blank b xs blank)

pub words_skip : (xs : List ℕ) → words_of xs ≡ words_of (drop (prefix_len is_blank xs) xs)
words_skip [] = refl
words_skip (x ∷ xs) = by_test (is_blank x) refl (words_skip xs)
  where
    by_test : (b : Bool) → is_blank x ≡ b → words_of xs ≡ words_of (drop (prefix_len is_blank xs) xs) → words_of (x ∷ xs) ≡ words_of (drop (prefix_len is_blank (x ∷ xs)) (x ∷ xs))
    by_test true t more =
        let n : prefix_len is_blank (x ∷ xs) ≡ suc (prefix_len is_blank xs) = rw t (omega arith) in
        words_behind x xs t ∙ more ∙ ap (λ (k : ℕ). words_of (drop k (x ∷ xs))) (sym n)
    by_test false t more =
        let n : prefix_len is_blank (x ∷ xs) ≡ 0 = rw t refl in
        ap (λ (k : ℕ). words_of (drop k (x ∷ xs))) (sym n)

-- the first word of a text that begins with one
words_first : (text : List ℕ) (at : ℕ) → at ≡ position_or_len is_blank text → 0 < at → words_of text ≡ take at text ∷ words_of (drop at text)
words_first text at at_is some = by_end (nat_lt at (length text)) refl
  where
    within : at ≤ length text
    within = omega (arith, prefix_len-le-length (λ b. not (is_blank b)) text)

    by_end : (b : Bool) → nat_lt at (length text) ≡ b → words_of text ≡ take at text ∷ words_of (drop at text)
    by_end true t =
        let lt : at < length text = ltb-true at (length text) t in
        let place : position_or_len is_blank text < length text = omega arith in
        let split : slice_split is_blank text ≡ take at text ∷ slice_split is_blank (drop (at + 1) text) =
        slice_split_first is_blank text 0 place ∙ ap (λ (n : ℕ). take n text ∷ slice_split is_blank (drop (n + 1) text)) (sym at_is) in
        let word : 0 < length (take at text) = omega (arith, length-take at text) in
        let blank : is_blank (get_or text at 0) ≡ true = subst (λ (n : ℕ). is_blank (get_or text n 0) ≡ true) (sym at_is) (passes_at_first is_blank text 0 place) in
        let rest : drop at text ≡ get_or text at 0 ∷ drop (at + 1) text = rw add-one (drop-cons text at 0 lt) in
        ap (filter is_word) split
        ∙ filter_word (take at text) (slice_split is_blank (drop (at + 1) text)) word
        ∙ ap (λ (ws : List (List ℕ)). take at text ∷ ws) (sym (ap words_of rest ∙ words_behind (get_or text at 0) (drop (at + 1) text) blank))
    by_end false t =
        let all : length text ≤ at = ltb-false at (length text) t in
        let none : slice_split is_blank text ≡ text ∷ [] = slice_split_none is_blank text (λ k d lt. fails_before_first is_blank text k d (omega arith)) in
        let word : 0 < length text = omega (arith, within) in
        let whole : take at text ≡ text = take_all at text all in
        let behind : drop at text ≡ [] = drop_of_length-le text all in
        ap (filter is_word) none ∙ filter_word text [] word ∙ (λ i. sym whole i ∷ words_of (sym behind i))

first_place : (text : List ℕ) → 0 < length text → is_blank (get_or text 0 0) ≡ false → 0 < position_or_len is_blank text
first_place [] some first = absurd (omega arith)
first_place (x ∷ xs) some first = let t : is_blank x ≡ false = first in rw t (omega arith)

-- a value without words, and one with a word
pub no_word : (value : List ℕ) (n : ℕ) → n ≡ prefix_len is_blank value → length (take (length value - n) (drop n value)) ≡ 0 → words_of value ≡ []
no_word value n n_is none =
    let all : length value ≤ n = omega (arith, ap length (tail_is n value), length-drop n value) in
    words_skip value ∙ ap (λ (k : ℕ). words_of (drop k value)) (sym n_is) ∙ ap words_of (drop_of_length-le value all)

pub at_is_positive : (value : List ℕ) (n at : ℕ) → n ≡ prefix_len is_blank value → at ≡ position_or_len is_blank (take (length value - n) (drop n value)) → 0 < length (take (length value - n) (drop n value)) → 0 < at
at_is_positive value n at n_is at_is some =
    let text_is : take (length value - n) (drop n value) ≡ drop n value = tail_is n value in
    let lt : n < length value = omega (arith, ap length text_is, length-drop n value) in
    let stops : is_blank (get_or value n 0) ≡ false = subst (λ (k : ℕ). is_blank (get_or value k 0) ≡ false) (sym n_is) (prefix_len_stops is_blank value 0 (omega arith)) in
    let front : take (length value - n) (drop n value) ≡ get_or value n 0 ∷ drop (n + 1) value = text_is ∙ rw add-one (drop-cons value n 0 lt) in
    let first : is_blank (get_or (take (length value - n) (drop n value)) 0 0) ≡ false = ap (λ (zs : List ℕ). is_blank (get_or zs 0 0)) front ∙ stops in
    omega (arith, first_place (take (length value - n) (drop n value)) some first)

pub one_word : (value : List ℕ) (n at : ℕ) → n ≡ prefix_len is_blank value → at ≡ position_or_len is_blank (take (length value - n) (drop n value)) → 0 < length (take (length value - n) (drop n value)) → words_of value ≡ take at (take (length value - n) (drop n value)) ∷ words_of (take (length (take (length value - n) (drop n value)) - at) (drop at (take (length value - n) (drop n value))))
one_word value n at n_is at_is some =
    words_skip value ∙ ap (λ (k : ℕ). words_of (drop k value)) (sym n_is) ∙ ap words_of (sym (tail_is n value))
    ∙ words_first (take (length value - n) (drop n value)) at at_is (at_is_positive value n at n_is at_is some)
    ∙ ap (λ (zs : List ℕ). take at (take (length value - n) (drop n value)) ∷ words_of zs) (sym (tail_is at (take (length value - n) (drop n value))))
