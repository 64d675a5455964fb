-- Rounds of slabs: with so many workers, round r is the slabs from 4 * workers * r on, 4 * workers of them or as many as there are.
use Rattle.std.specs.Prelude.{ℕ, ◌-◌, ◌*◌, List, min, flat_map}
use Rattle.std.specs.Int.{div_ceil}
use Rattle.std.specs.List.{range_with_len}
use Rattle.definitions.specs.declared.Dims.{Dims}
use Rattle.definitions.specs.Layout.{slabs}
use Rattle.slab_emit.specs.declared.Lines.{Lines}
use Rattle.slab_emit.specs.Sources.{SourceValue, slab_lines}

-- how many there are
abbrev pub rounds_of : Dims → ℕ → ℕ → ℕ
rounds_of d t workers = div_ceil (slabs d t) (4 * workers)

-- the slabs of round r
abbrev pub round_slabs : Dims → ℕ → ℕ → ℕ → List ℕ
round_slabs d t workers r = range_with_len (4 * workers * r) (min (4 * workers) (slabs d t - 4 * workers * r))

-- their lines
abbrev pub round_lines : Lines → SourceValue → ℕ → ℕ → List ℕ
round_lines lines s workers r = flat_map (slab_lines lines s) (round_slabs s.field.dims s.slab workers r)

-- the lines of all rounds, in order
abbrev pub lines_of_rounds : Lines → SourceValue → ℕ → List ℕ
lines_of_rounds lines s workers = flat_map (round_lines lines s workers) (range_with_len 0 (rounds_of s.field.dims s.slab workers))
