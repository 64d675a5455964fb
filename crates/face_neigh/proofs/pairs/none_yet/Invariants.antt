use Rattle.std.proofs.Common.{◌≡◌}
use Rattle.face_neigh.specs.Pairs.{none_noted}
use Rattle.face_neigh.proofs.pairs.none_yet.Given as goal

abbrev pub invariant-loop : goal.invariant-loop
invariant-loop l = l.found.items ≡ none_noted l.counter
