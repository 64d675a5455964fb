use Rattle.std.proofs.Common.{◌≡◌, ℕ, ◌<◌, get_or}
use Rattle.definitions.specs.Lattice.{vertex_at}
use Rattle.definitions.specs.States.{code, state_of}
use Rattle.lattice_counts.specs.Counts.{below_layer}
use Rattle.snap_rule.proofs.layers.write_all.Given as goal

abbrev pub invariant-loop-h : goal.invariant-loop-h
invariant-loop-h l =
    (l.at ≡ below_layer l.field.dims l.h) × ((k : ℕ) → k < below_layer l.field.dims l.h → get_or l.out k 0 ≡ code (state_of l.field l.shares (vertex_at l.field.dims k)))
