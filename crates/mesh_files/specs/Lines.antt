-- The lines of a mesh file, and the fields in them.
use Rattle.std.specs.Prelude.{ℕ, ◌+◌, ◌^◌, ◌==◌, nat_lt, List, filter, length}
use Rattle.std.specs.List.{slice_split, scan, before_first}
use Rattle.std.specs.Str.Lines.{strip_carriage_return}
use Rattle.formats.specs.Heads.{words_of}

-- A text has at most so many bytes.
abbrev pub text_limit : ℕ
text_limit = 2 ^ 30

-- a line's fields, and the number of bytes before it
pub record Line : Type 0 where
  pub place : ℕ
  pub fields : List (List ℕ)

-- what counts of a line: without one carriage return at its end, what stands before the first `#`
abbrev pub content_of : List ℕ → List ℕ
content_of line = before_first (λ b. b == 35) (strip_carriage_return line)

-- the fields of a line, parted by blanks
abbrev pub fields_of : List ℕ → List (List ℕ)
fields_of line = words_of (content_of line)

-- The lines that have fields, where so many bytes stand before the text. A text is cut at its newlines, and its end ends a last line too.
unfoldable pub lines_from : ℕ → List ℕ → List Line
lines_from before text =
    filter
    (λ l. nat_lt 0 (length l.fields))
    (scan (λ at line. at + length line + 1) (λ at line. record { place = at; fields = fields_of line }) before (slice_split (λ b. b == 10) text))

abbrev pub lines_of : List ℕ → List Line
lines_of text = lines_from 0 text
