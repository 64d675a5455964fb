use Rattle.std.proofs.Common.{◌≡◌, length, arith, rules}
use Rattle.lattice_laws.proofs.Sublists.{has_at}
use Rattle.mesh_probe.proofs.nodes.places_of.Goals as goal

pub place_of-requires-clause-vertex : goal.place_of-requires-clause-vertex
place_of-requires-clause-vertex c = let four : length c.args.keys ≡ 4 = search rules in c.requires.vertices _ (has_at c.args.keys 0 0 (omega arith))

pub place_of-requires-2-clause-vertex : goal.place_of-requires-2-clause-vertex
place_of-requires-2-clause-vertex c = let four : length c.args.keys ≡ 4 = search rules in c.requires.vertices _ (has_at c.args.keys 1 0 (omega arith))

pub place_of-requires-3-clause-vertex : goal.place_of-requires-3-clause-vertex
place_of-requires-3-clause-vertex c = let four : length c.args.keys ≡ 4 = search rules in c.requires.vertices _ (has_at c.args.keys 2 0 (omega arith))

pub place_of-requires-4-clause-vertex : goal.place_of-requires-4-clause-vertex
place_of-requires-4-clause-vertex c = let four : length c.args.keys ≡ 4 = search rules in c.requires.vertices _ (has_at c.args.keys 3 0 (omega arith))
