use Rattle.std.proofs.Common.{◌≡◌, ◌+◌, ◌-◌, ◌*◌, ◌<◌, ◌≤◌, length}
use Rattle.std.specs.Prelude.{flat_map}
use Rattle.std.specs.List.{range_with_len}
use Rattle.definitions.specs.Lattice.{vertex_at, vertices}
use Rattle.mesh_lists.specs.Parts.{numbered}
use Rattle.slab_texts.specs.Nodes.{pieces_at}
use Rattle.slab_texts.specs.Texts.{Adds}
use Rattle.slab_texts.proofs.tetrahedra.push_tets.Given as goal

abbrev pub invariant-loop-at : goal.invariant-loop-at
invariant-loop-at l = record {
  here : l.at.id < length (vertices l.states.dims) → l.at.v ≡ vertex_at l.states.dims l.at.id;
  low : l.fn.from ≤ l.at.id;
  high : l.at.id ≤ l.fn.to;
  adds : Adds l.nodes l.initial.out (numbered l.states.dims l.states.states (flat_map (pieces_at l.states.dims l.states.states) (range_with_len l.fn.from (l.at.id - l.fn.from)))) l.out;
  few : l.out.number ≤ l.initial.out.number + 18 * (l.at.id - l.fn.from);
}

abbrev pub decreases-loop-at : goal.decreases-loop-at
decreases-loop-at l = l.fn.to - l.at.id
