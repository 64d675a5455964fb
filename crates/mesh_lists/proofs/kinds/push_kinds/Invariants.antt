use Rattle.std.proofs.Common.{◌≡◌, ◌++◌, map, take}
use Rattle.std.specs.Prelude.{flat_map}
use Rattle.definitions.specs.Mesh.{node_keys, number_of, tet_pieces}
use Rattle.definitions.specs.Tetrahedra.{tets_from}
use Rattle.mesh_lists.proofs.kinds.push_kinds.Given as goal

abbrev pub invariant-loop-kind : goal.invariant-loop-kind
invariant-loop-kind l =
    l.tets.items ≡ l.initial.tets.items ++ map (map (number_of (node_keys l.states.dims l.states.states))) (flat_map (tet_pieces l.states.dims l.states.states) (take l.kind (tets_from l.states.dims l.fn.v)))
