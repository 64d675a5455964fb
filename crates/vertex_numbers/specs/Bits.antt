-- Answers to a list of questions as the bits of a number, the first as bit 0.
use Rattle.std.specs.Prelude.{ℕ, ◌+◌, ◌*◌, ◌/◌, ◌%◌, ◌^◌, ◌==◌, Bool, List, [], ◌∷◌, count_by, if◌then◌else◌}

abbrev pub bits : List Bool → ℕ
bits [] = 0
bits (b ∷ bs) = (if b then 1 else 0) + 2 * bits bs

abbrev pub has_bit : ℕ → ℕ → Bool
has_bit n k = n / 2 ^ k % 2 == 1

-- how many of the answers are yes
abbrev pub trues : List Bool → ℕ
trues bs = count_by (λ b. b) bs
