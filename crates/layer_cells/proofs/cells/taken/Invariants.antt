use Rattle.std.proofs.Common.{◌≡◌, ◌<◌, ℕ, length, get_or}
use Rattle.std.specs.Mem.Slots.{slots_items}
use Rattle.layer_cells.proofs.cells.taken.Given as goal

abbrev pub invariant-loop-k : goal.invariant-loop-k
invariant-loop-k l = (length l.room.items ≡ length l.initial.room.items) × ((j : ℕ) → j < l.k → get_or l.room.items j 0 ≡ get_or (slots_items l.closed.words) j 0)
