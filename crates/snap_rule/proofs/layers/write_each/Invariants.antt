use Rattle.std.proofs.Common.{◌≡◌, ℕ, ◌+◌, ◌<◌, get_or}
use Rattle.definitions.specs.States.{code, state_of}
use Rattle.snap_rule.specs.Alike.{vertex_of_row}
use Rattle.snap_rule.proofs.layers.write_each.Given as goal

abbrev pub invariant-loop-b : goal.invariant-loop-b
invariant-loop-b l =
    ((b : ℕ) → b < l.b → get_or l.out (l.at + b) 0 ≡ code (state_of l.field l.shares (vertex_of_row l.h l.j (l.i + b))))
    × ((k : ℕ) → k < l.at → get_or l.out k 0 ≡ get_or l.initial.out k 0)
