use Rattle.std.proofs.Common.{◌≡◌, ◌++◌, map, take}
use Rattle.std.specs.Prelude.{flat_map}
use Rattle.definitions.specs.Mesh.{node_keys, number_of, tet_pieces}
use Rattle.definitions.specs.Tetrahedra.{tets_from}
use Rattle.mesh_lists.proofs.tetrahedra.push_tets_at_rim.Given as goal

abbrev pub invariant-loop-n : goal.invariant-loop-n
invariant-loop-n l =
    l.tets.items ≡ l.initial.tets.items ++ map (map (number_of (node_keys l.states.dims l.states.states))) (flat_map (tet_pieces l.states.dims l.states.states) (take l.n (tets_from l.states.dims l.fn.v)))
