use Rattle.std.proofs.Common.{◌≡◌, ℕ, ◌+◌, ◌*◌, ◌<◌, get_or}
use Rattle.std.specs.Prelude.{min}
use Rattle.definitions.specs.States.{code, state_of}
use Rattle.lattice_counts.specs.Counts.{row_len}
use Rattle.snap_rule.specs.Alike.{vertex_of_row}
use Rattle.snap_rule.proofs.layers.write_row.Given as goal

abbrev pub invariant-loop-m : goal.invariant-loop-m
invariant-loop-m l =
    ((i : ℕ) → i < min (l.m * 61) (row_len l.field.dims.nx l.fn.h) → get_or l.out (l.start + i) 0 ≡ code (state_of l.field l.shares (vertex_of_row l.fn.h l.fn.j i)))
    × ((k : ℕ) → k < l.start → get_or l.out k 0 ≡ get_or l.initial.out k 0)
