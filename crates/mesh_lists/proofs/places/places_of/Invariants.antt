use Rattle.std.proofs.Common.{◌≡◌, ◌-◌, ◌<◌, ◌≤◌, map, length}
use Rattle.definitions.specs.Lattice.{vertex_at, vertices}
use Rattle.definitions.specs.Mesh.{node_place}
use Rattle.mesh_lists.specs.Parts.{keys_of_ids}
use Rattle.mesh_lists.proofs.places.places_of.Given as goal

abbrev pub invariant-loop-at : goal.invariant-loop-at
invariant-loop-at l = record {
  here : l.at.id < length (vertices l.field.dims) → l.at.v ≡ vertex_at l.field.dims l.at.id;
  low : l.fn.start ≤ l.at.id;
  high : l.at.id ≤ l.fn.end;
  made : l.places.items ≡ map (node_place l.field l.states.states) (keys_of_ids l.field.dims l.states.states l.fn.start (l.at.id - l.fn.start));
}

abbrev pub decreases-loop-at : goal.decreases-loop-at
decreases-loop-at l = l.fn.end - l.at.id
