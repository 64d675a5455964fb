use Rattle.std.proofs.Common.{◌≡◌, take, length}
use Rattle.survey_workers.specs.Tables.{with_counts}
use Rattle.survey_workers.proofs.gathering.fill.Given as goal

abbrev pub invariant-loop-k : goal.invariant-loop-k
invariant-loop-k l = (l.table.items ≡ with_counts l.initial.table.items (take l.k l.counts)) × (length l.table.items ≡ length l.initial.table.items)
