use Rattle.std.proofs.Common.{◌≡◌, ◌≤◌, ◌+◌, ◌*◌, length, take}
use Rattle.std.specs.Prelude.{flat_map}
use Rattle.definitions.specs.Mesh.{tet_pieces}
use Rattle.definitions.specs.States.{states}
use Rattle.definitions.specs.Tetrahedra.{tets_from}
use Rattle.mesh_probe.specs.Found.{NoneHolds}
use Rattle.mesh_probe.proofs.pieces.found_from.Given as goal

abbrev pub invariant-loop-n : goal.invariant-loop-n
invariant-loop-n g l =
    let f = l.fn.field in
    let part = flat_map (tet_pieces f.dims (states f l.fn.shares)) (take l.n (tets_from f.dims l.fn.v)) in
    record {
      before : l.before ≡ length part;
      few : l.before ≤ 3 * l.n;
      none : NoneHolds f l.fn.shares l.fn.point part;
      count : g.L.Ledger.count l.ledger ≡ g.L.Ledger.count l.initial.ledger + 4 * l.n;
    }
