use Rattle.std.proofs.Common.{◌≡◌, drop}
use Rattle.mesh_audit.specs.Triangles.{least_with}
use Rattle.mesh_audit.proofs.runs.least.Given as goal

abbrev pub invariant-loop-triangle : goal.invariant-loop-triangle
invariant-loop-triangle l = least_with l.least (drop l.triangle-index l.run) ≡ least_with l.fn.so_far l.run
