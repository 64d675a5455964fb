use Rattle.std.proofs.Common.{◌++◌, take}
use Rattle.std.specs.Prelude.{flat_map, IsPermutation}
use Rattle.face_neigh.proofs.gather.join.Given as goal

abbrev pub invariant-loop-number : goal.invariant-loop-number
invariant-loop-number l = IsPermutation (l.initial.sides.items ++ flat_map (λ g. g.items) (take l.number l.groups)) l.sides.items
