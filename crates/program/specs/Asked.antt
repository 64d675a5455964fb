-- What a list of words asks for.
use Rattle.std.specs.Prelude.{ℕ, List, [], ◌∷◌, codes, if◌then◌else◌}
use Rattle.std.specs.Str.{bytes_eq}
use Rattle.program.specs.declared.asking.Asked.{Asked}
use Rattle.program.specs.declared.asking.Asked.TheVariants.{Help, Version, Command}

abbrev pub asked_by : List (List ℕ) → Asked
asked_by (word ∷ []) = if bytes_eq word (codes "--help") then Help else if bytes_eq word (codes "--version") then Version else Command
asked_by words = Command
