-- The words of a value that are counts.
use Rattle.std.proofs.Common.{◌≡◌, ℕ, ◌+◌, List, [], ◌∷◌, length, map, Option, Some, None, Bool, true, false, ◌&&◌, if◌then◌else◌, refl, arith}
use Rattle.std.specs.List.{list_all}
use Rattle.std.specs.Str.Parse.{digits_value}
use Rattle.formats.specs.Counts.{is_positive_count}
use Rattle.mha_read.specs.RawSizes.{first_three}

-- how many counts there are behind some others, where all of them are positive
abbrev pub tally : ℕ → List (List ℕ) → Option ℕ
tally n ws = if list_all is_positive_count ws then Some (n + length ws) else None

-- three sizes that are given
pub three_sizes : (ws : List (List ℕ)) → list_all is_positive_count ws ≡ true → length ws ≡ 3 → first_three ws ≡ Some (map (digits_value 10) ws)
three_sizes [] all len = absurd (omega arith)
three_sizes (a ∷ []) all len = absurd (omega arith)
three_sizes (a ∷ b ∷ []) all len = absurd (omega arith)
three_sizes (a ∷ b ∷ c ∷ []) all len = by_tests (is_positive_count a) (is_positive_count b) (is_positive_count c) all
  where
    by_tests : (p q r : Bool) → (p && (q && (r && true))) ≡ true → (if p && (q && r) then Some (digits_value 10 a ∷ digits_value 10 b ∷ digits_value 10 c ∷ []) else None) ≡ Some (digits_value 10 a ∷ digits_value 10 b ∷ digits_value 10 c ∷ [])
    by_tests true true true h = refl
    by_tests true true false h = cc
    by_tests true false r h = cc
    by_tests false q r h = cc
three_sizes (a ∷ b ∷ c ∷ d ∷ more) all len = absurd (omega arith)
