-- The texts that are written.
use Rattle.std.specs.Prelude.{ℕ, List, [], ◌∷◌, ◌++◌, codes, decimal, count_by, Bool}
use Rattle.std.specs.List.{join_with_byte}
use Rattle.definitions.specs.declared.Sign.{Sign}
use Rattle.definitions.specs.Lattice.{vertices}
use Rattle.definitions.specs.Values.{Field, value, sign_of}
use Rattle.definitions.specs.Stencils.{is_plus, is_zero, is_minus}

-- a line: its fields with a blank between each two, and a newline
abbrev pub line : List (List ℕ) → List ℕ
line fields = join_with_byte 32 fields ++ (10 ∷ [])

-- how many vertices have a sign before any is moved
abbrev pub sign_count : (Sign → Bool) → Field → ℕ
sign_count p f = count_by (λ v. p (sign_of (value f v))) (vertices f.dims)

unfoldable pub sign_line : Field → List ℕ
sign_line f = line (codes "plus" ∷ decimal (sign_count is_plus f) ∷ codes "zero" ∷ decimal (sign_count is_zero f) ∷ codes "minus" ∷ decimal (sign_count is_minus f) ∷ [])
