use Rattle.std.proofs.Common.{◌≡◌, take}
use Rattle.std.specs.Prelude.{flat_map}
use Rattle.std.specs.List.{enumerate_from}
use Rattle.definitions.specs.Angles.{angles_of, extremes_of}
use Rattle.mesh_lists.proofs.angles.extremes.Given as goal

abbrev pub invariant-loop-number : goal.invariant-loop-number
invariant-loop-number l = l.running ≡ extremes_of (flat_map (angles_of l.places) (enumerate_from 0 (take l.number l.mesh.tets)))
