-- Bytes that are held before they are written.
use Rattle.std.specs.Prelude.{◌≡◌, ℕ, Option, List, ◌++◌}
use Rattle.std.specs.Io.KnownBytes.{Appends}

-- a told text has grown from old to new by all these bytes but for those at their end that are held
abbrev pub AppendsAllButHeld : Option (List ℕ) → Option (List ℕ) → List ℕ → List ℕ → Type 0
AppendsAllButHeld old new held all = (written : List ℕ) × Appends old new written × (written ++ held ≡ all)
