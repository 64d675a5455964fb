-- The line of three counts of signs.
use Rattle.std.specs.Prelude.{ℕ, List, [], ◌∷◌, codes, decimal}
use Rattle.formats.specs.Texts.{line}

abbrev pub signs_line : ℕ → ℕ → ℕ → List ℕ
signs_line plus on minus = line (codes "plus" ∷ decimal plus ∷ codes "zero" ∷ decimal on ∷ codes "minus" ∷ decimal minus ∷ [])
