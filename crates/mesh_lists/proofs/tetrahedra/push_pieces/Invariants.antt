use Rattle.std.proofs.Common.{◌≡◌, ◌++◌, map, take}
use Rattle.definitions.specs.Mesh.{node_keys, number_of, tet_pieces}
use Rattle.mesh_lists.proofs.tetrahedra.push_pieces.Given as goal

abbrev pub invariant-loop-n : goal.invariant-loop-n
invariant-loop-n l = l.tets.items ≡ l.initial.tets.items ++ map (map (number_of (node_keys l.states.dims l.states.states))) (take l.n (tet_pieces l.states.dims l.states.states l.fn.tet.at))
