use Rattle.std.proofs.Common.{◌≡◌, [], length}
use Rattle.std.specs.Prelude.{flat_map}
use Rattle.face_neigh.proofs.gather.no_groups.Given as goal

abbrev pub invariant-loop : goal.invariant-loop
invariant-loop l = (flat_map (λ g. g.items) l.groups.items ≡ []) × (length l.groups.items ≡ l.counter)
