use Rattle.std.proofs.Common.{◌++◌, take}
use Rattle.std.specs.Prelude.{flat_map, IsPermutation}
use Rattle.face_neigh.proofs.gather.spread.Given as goal

abbrev pub invariant-loop-number : goal.invariant-loop-number
invariant-loop-number l = IsPermutation (flat_map (λ g. g.items) l.initial.groups ++ take l.number l.sides) (flat_map (λ g. g.items) l.groups)
