use Rattle.std.proofs.Common.{take}
use Rattle.definitions.specs.Mesh.{tet_pieces}
use Rattle.definitions.specs.States.{states}
use Rattle.mesh_probe.specs.Found.{NoneHolds}
use Rattle.mesh_probe.proofs.pieces.in_tet.Given as goal

abbrev pub invariant-loop-n : goal.invariant-loop-n
invariant-loop-n g l = NoneHolds l.fn.field l.fn.shares l.fn.point (take l.n (tet_pieces l.fn.field.dims (states l.fn.field l.fn.shares) l.fn.tet.at))
