-- The raw rows of a volume, one after the other, and what is kept of them where every step-th sample is kept on each axis.
use Rattle.std.specs.Prelude.{ℕ, ◌+◌, ◌*◌, ◌/◌, ◌%◌, ◌==◌, List, [], map, flat_map, ℤ, if◌then◌else◌}
use Rattle.std.specs.List.{range_with_len}
use Rattle.formats.specs.Volumes.{kept_size}

-- the samples that are kept of a row of rx, whose first has a number
abbrev pub kept_of_row : (ℕ → ℤ) → ℕ → ℕ → ℕ → List ℤ
kept_of_row sample rx step first = map (λ i. sample (first + i * step)) (range_with_len 0 (kept_size step rx))

-- the same of row q, with ry rows in a plane: none where the row or its plane is not kept
abbrev pub kept_at_row : (ℕ → ℤ) → ℕ → ℕ → ℕ → ℕ → ℕ → List ℤ
kept_at_row sample rx ry step first q = if (q / ry) % step == 0 then (if (q % ry) % step == 0 then kept_of_row sample rx step first else []) else []

-- the same of n rows from row q on
unfoldable pub kept_of_rows : (ℕ → ℤ) → ℕ → ℕ → ℕ → ℕ → ℕ → List ℤ
kept_of_rows sample rx ry step q n = flat_map (λ i. kept_at_row sample rx ry step (i * rx) (q + i)) (range_with_len 0 n)
