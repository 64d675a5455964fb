use Rattle.std.proofs.Common.{◌≡◌, ◌++◌, map, take}
use Rattle.std.specs.Prelude.{slice_index}
use Rattle.stencils.specs.Cases.{listed}
use Rattle.mesh_lists.proofs.kinds.push_case.Given as goal

abbrev pub invariant-loop-n : goal.invariant-loop-n
invariant-loop-n l = l.tets.items ≡ l.initial.tets.items ++ map (map (λ k. slice_index l.numbers k)) (take l.n (listed l.case))
