-- A line of a text, and what reading it takes.
use Rattle.std.specs.Prelude.{◌≡◌, ◌≢◌, ◌⊎◌, ◌<◌, ℕ, List, [], ◌∷◌, ◌++◌, length, Option, Bool, true, false, All}
use Rattle.std.specs.Io.KnownBytes.{Consumes, IsAtEnd}

abbrev pub HasNoNewline : List ℕ → Type 0
HasNoNewline line = All (λ b. b ≢ 10) line

-- A line with its newline was taken, within so many bytes, or else bytes with no newline: so many, or all that were left.
abbrev pub TakesLine : Option (List ℕ) → Option (List ℕ) → List ℕ → ℕ → Bool → Type 0
TakesLine old new line budget true = Consumes old new (line ++ 10 ∷ []) × HasNoNewline line × (length line < budget)
TakesLine old new line budget false = Consumes old new line × HasNoNewline line × ((length line ≡ budget) ⊎ ((length line < budget) × IsAtEnd new))
