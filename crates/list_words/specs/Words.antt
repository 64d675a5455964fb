-- How often numbers stand in lists of numbers.
use Rattle.std.specs.Prelude.{◌≡◌, ℕ, ◌==◌, nat_lt, Bool, not, List, [], ◌∷◌, ◌++◌, filter, count_by, if◌then◌else◌}
use Rattle.std.specs.List.{list_any, list_all}

-- x stands in the list
abbrev pub has : ℕ → List ℕ → Bool
has x xs = list_any (λ y. y == x) xs

-- each of these stands in that list
abbrev pub has_all : List ℕ → List ℕ → Bool
has_all xs ys = list_all (λ x. has x ys) xs

-- how often x stands in the list
abbrev pub times : ℕ → List ℕ → ℕ
times x xs = count_by (λ y. y == x) xs

-- x is appended where it doesn't stand in the list
abbrev pub joined : ℕ → List ℕ → List ℕ
joined x xs = if has x xs then xs else xs ++ x ∷ []

abbrev pub without : ℕ → List ℕ → List ℕ
without x xs = filter (λ y. not (y == x)) xs

-- once where x is below n, and not at all elsewhere
abbrev pub once_below : ℕ → ℕ → ℕ
once_below x n = if nat_lt x n then 1 else 0

-- each number below n stands in the list once, and no other number does
abbrev pub EachOnce : ℕ → List ℕ → Type 0
EachOnce n xs = (x : ℕ) → times x xs ≡ once_below x n
