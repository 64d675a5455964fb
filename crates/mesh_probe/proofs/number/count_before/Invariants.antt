use Rattle.std.proofs.Common.{◌≡◌, ◌≤◌, ◌*◌, ◌^◌, length, take}
use Rattle.std.specs.Prelude.{flat_map}
use Rattle.definitions.specs.Lattice.{id, vertices}
use Rattle.mesh_probe.specs.Holding.{pieces_from}
use Rattle.mesh_probe.proofs.number.count_before.Given as goal

abbrev pub invariant-loop-n : goal.invariant-loop-n
invariant-loop-n l = record {
  count : l.count ≡ length (flat_map (pieces_from l.states.dims l.states.states) (take l.n (vertices l.states.dims)));
  few : l.count ≤ 18 * 2 ^ 27;
  within : l.n ≤ id l.states.dims l.fn.v;
}
