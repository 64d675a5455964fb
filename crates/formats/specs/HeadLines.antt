-- The lines of the head of a .mha file, and the pairs of a key and a value that stand in them.
use Rattle.std.specs.Prelude.{ℕ, ◌+◌, ◌-◌, Bool, true, false, ◌||◌, ◌==◌, nat_le, List, [], ◌∷◌, filter, filter_map, find, length, take, drop, codes, Option, Some, None, Result, Ok, Err, if◌then◌else◌}
use Rattle.std.specs.List.{before_first, after_first, prefix_len, suffix_len, scan, list_all, list_any}
use Rattle.std.specs.Str.Lines.{strip_carriage_return}
use Rattle.std.specs.Str.{bytes_eq}
use Rattle.formats.specs.declared.HeadFault.{HeadFault}
use Rattle.formats.specs.declared.HeadFault.TheVariants.{BadLine, HeaderTooLong, HeadEnds}
use Rattle.formats.specs.Counts.{head_limit, line_texts, is_blank}

-- a line, and the number of bytes before it
pub record Line : Type 0 where
  pub place : ℕ
  pub text : List ℕ

abbrev pub lines : List ℕ → List Line
lines bytes = scan (λ at text. at + length text + 1) (λ at text. record { place = at; text = text }) 0 (line_texts bytes)

-- the text without the blanks at its ends
abbrev pub trim_blanks : List ℕ → List ℕ
trim_blanks text = let rest = drop (prefix_len is_blank text) text in take (length rest - suffix_len is_blank rest) rest

-- What a line says: nothing, something bad, or a key and a value.
pub data Meaning : Type 0 where
  Nothing : Meaning
  Bad : Meaning
  Pair : (name value : List ℕ) → Meaning

abbrev pub pair_or_bad : List ℕ → List ℕ → Meaning
pair_or_bad [] value = Bad
pair_or_bad (b ∷ bs) value = Pair (b ∷ bs) value

-- A line is split at its first `=`. One carriage return at its end is dropped before.
abbrev pub meaning_of : List ℕ → Meaning
meaning_of text =
    let line = strip_carriage_return text in
    if list_all is_blank line
    then Nothing
    else if list_any (λ b. b == 61) line
    then pair_or_bad (trim_blanks (before_first (λ b. b == 61) line)) (trim_blanks (after_first (λ b. b == 61) line))
    else Bad

abbrev pub is_data_line : Meaning → Bool
is_data_line (Pair name value) = bytes_eq name (codes "ElementDataFile")
is_data_line m = false

abbrev pub is_bad : Meaning → Bool
is_bad Bad = true
is_bad m = false

-- the line ends the search: it is the data line, or a bad one
abbrev pub ends_search : Line → Bool
ends_search l = is_bad (meaning_of l.text) || is_data_line (meaning_of l.text)

abbrev pub pair_of : Meaning → Option (List ℕ × List ℕ)
pair_of (Pair name value) = Some (name, value)
pair_of m = None

-- The pairs of a head, its data line the last, and its length with that line's newline.
pub record Pairs : Type 0 where
  pub pairs : List (List ℕ × List ℕ)
  pub len : ℕ

-- what the search finds at the first line that ends it
abbrev pub pairs_at : List Line → Line → Result Pairs HeadFault
pairs_at ls l =
    if is_bad (meaning_of l.text)
    then Err (BadLine l.place)
    else Ok (record { pairs = filter_map (λ m. pair_of (meaning_of m.text)) (filter (λ m. nat_le m.place l.place) ls); len = l.place + length l.text + 1 })

-- the pairs of the head, or why there is none
abbrev pub pairs_found : List Line → Bool → Option Line → Result Pairs HeadFault
pairs_found ls full (Some l) = pairs_at ls l
pairs_found ls full None = Err (if full then HeaderTooLong else HeadEnds)

unfoldable pub pairs_of : List ℕ → Result Pairs HeadFault
pairs_of input =
    let start = take head_limit input in
    pairs_found (lines start) (length start == head_limit) (find ends_search (lines start))
