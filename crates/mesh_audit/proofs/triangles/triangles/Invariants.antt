use Rattle.std.proofs.Common.{◌≡◌, ◌++◌, drop}
use Rattle.mesh_audit.specs.Triangles.{triangles_from}
use Rattle.mesh_audit.proofs.triangles.triangles.Given as goal

abbrev pub invariant-loop-i : goal.invariant-loop-i
invariant-loop-i l = l.triangles.items ++ triangles_from l.i (drop l.i l.tets) ≡ triangles_from 0 l.tets
