use Rattle.std.proofs.Common.{◌≡◌, ◌<◌, length, map, take}
use Rattle.std.specs.Prelude.{flat_map}
use Rattle.definitions.specs.Lattice.{vertex_at, vertices}
use Rattle.definitions.specs.Mesh.{node_keys, number_of, tet_pieces}
use Rattle.definitions.specs.Tetrahedra.{tets_from}
use Rattle.mesh_lists.proofs.tetrahedra.tets_of.Given as goal

abbrev pub invariant-loop-id : goal.invariant-loop-id
invariant-loop-id l = record {
  at : l.id < length (vertices l.states.dims) → l.v ≡ vertex_at l.states.dims l.id;
  made : l.tets.items ≡ map (map (number_of (node_keys l.states.dims l.states.states))) (flat_map (λ v. flat_map (tet_pieces l.states.dims l.states.states) (tets_from l.states.dims v)) (take l.id (vertices l.states.dims)));
}
