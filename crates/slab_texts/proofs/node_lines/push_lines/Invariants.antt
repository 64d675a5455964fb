use Rattle.std.proofs.Common.{◌≡◌, ◌+◌, ◌-◌, ◌*◌, ◌<◌, ◌≤◌, map, length}
use Rattle.definitions.specs.Lattice.{vertex_at, vertices}
use Rattle.mesh_texts.specs.Nodes.{node_of_key}
use Rattle.mesh_lists.specs.Parts.{keys_of_ids}
use Rattle.slab_texts.specs.NodeLines.{AddsNodes}
use Rattle.slab_texts.proofs.node_lines.push_lines.Given as goal

abbrev pub invariant-loop-at : goal.invariant-loop-at
invariant-loop-at l = record {
  here : l.at.id < length (vertices l.field.dims) → l.at.v ≡ vertex_at l.field.dims l.at.id;
  low : l.fn.start ≤ l.at.id;
  high : l.at.id ≤ l.fn.end;
  adds : AddsNodes l.frame l.initial.out (map (node_of_key l.field l.states.states) (keys_of_ids l.field.dims l.states.states l.fn.start (l.at.id - l.fn.start))) l.out;
  few : l.out.number ≤ l.initial.out.number + 8 * (l.at.id - l.fn.start);
}

abbrev pub decreases-loop-at : goal.decreases-loop-at
decreases-loop-at l = l.fn.end - l.at.id
