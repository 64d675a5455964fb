use Rattle.std.proofs.Common.{◌≡◌, ℕ, ◌+◌, ◌*◌, ◌<◌, get_or}
use Rattle.definitions.specs.States.{code, state_of}
use Rattle.lattice_counts.specs.Counts.{row_len, vertex_in_layer}
use Rattle.snap_rule.proofs.layers.write_layer.Given as goal

abbrev pub invariant-loop-j : goal.invariant-loop-j
invariant-loop-j l =
    (l.at ≡ l.fn.start + l.j * row_len l.field.dims.nx l.fn.h)
    × ((p : ℕ) → p < l.j * row_len l.field.dims.nx l.fn.h → get_or l.out (l.fn.start + p) 0 ≡ code (state_of l.field l.shares (vertex_in_layer l.field.dims l.fn.h p)))
    × ((k : ℕ) → k < l.fn.start → get_or l.out k 0 ≡ get_or l.initial.out k 0)
