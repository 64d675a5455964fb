use Rattle.std.proofs.Common.{◌≡◌, ◌+◌, ◌*◌, ◌<◌}
use Rattle.std.specs.Ordering.{nat_cmp}
use Rattle.dihedral.proofs.fractions.by_quotients.Given as goal

abbrev pub invariant-loop-left : goal.invariant-loop-left
invariant-loop-left l = record { b_some : 0 < l.b; d_some : 0 < l.d; same : nat_cmp (l.a * l.d) (l.c * l.b) ≡ nat_cmp (l.fn.a * l.fn.d) (l.fn.c * l.fn.b) }

abbrev pub decreases-loop-left : goal.decreases-loop-left
decreases-loop-left l = l.b + l.d
