-- The lines at the front of a told text that were read so far, and where reading them stops.
use Rattle.std.specs.Prelude.{◌≡◌, ◌⊎◌, ◌<◌, ◌≤◌, ℕ, ◌+◌, ◌-◌, List, [], ◌∷◌, ◌++◌, sum, map, length, take, drop, Option, Some}
use Rattle.formats.specs.Counts.{head_limit, line_texts}

-- so many bytes of a text were taken
pub record Leaves (text : List ℕ) (n : ℕ) (left : Option (List ℕ)) : Type 0 where
  pub left_is : left ≡ Some (drop n text)
  pub within : n ≤ length text

-- the number of bytes in these lines with their newlines
abbrev pub bytes_of : List (List ℕ) → ℕ
bytes_of lines = sum (map (λ line. length line + 1) lines)

-- the lines in which a head stands
abbrev pub lines_of : List ℕ → List (List ℕ)
lines_of text = line_texts (take head_limit text)

-- these are the first lines of a text, and they were taken with their newlines
pub record LinesRead (text : List ℕ) (place : ℕ) (left : Option (List ℕ)) (done : List (List ℕ)) : Type 0 where
  pub leaves : Leaves text place left
  pub within : place ≤ head_limit
  pub place_is : bytes_of done ≡ place
  pub lines : lines_of text ≡ done ++ line_texts (take (head_limit - place) (drop place text))

-- no line stands behind these, and all bytes in which a head stands were taken
pub record NoLine (text : List ℕ) (done : List (List ℕ)) (left : Option (List ℕ)) : Type 0 where
  pub lines : lines_of text ≡ done
  pub leaves : Leaves text (length (take head_limit text)) left

-- there is a first line, of so many bytes at least
pub record HasLine (lines : List (List ℕ)) (n : ℕ) : Type 0 where
  pub line : List ℕ
  pub more : List (List ℕ)
  pub is : lines ≡ line ∷ more
  pub longer : n ≤ length line

-- Bytes of the next line were taken, and not its newline: it may have none.
pub record CutShort (text : List ℕ) (place : ℕ) (done : List (List ℕ)) (left : Option (List ℕ)) : Type 0 where
  pub part : ℕ
  pub leaves : Leaves text (place + part) left
  pub below : place + part < head_limit
  pub rest : List (List ℕ)
  pub lines : lines_of text ≡ done ++ rest
  pub next : (rest ≡ []) ⊎ ((place + part < length text) × HasLine rest part)
