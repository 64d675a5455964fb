use Rattle.std.proofs.Common.{◌≡◌, ℕ, ◌<◌, arith, length, rules}
use Rattle.mesh_lists.proofs.Pieces.{ids_within}
use Rattle.mesh_lists.proofs.tetrahedra.signs_of.Goals as goal

in_four : (k n : ℕ) → k < 4 → n ≡ 4 → k < n
in_four k n lt e = omega arith

pub sign-requires : goal.sign-requires
sign-requires c =
    let four : length c.args.tet.now.ids ≡ 4 = search rules in
    ids_within c.args.states.now.dims c.args.tet.now.at c.args.tet.now.ids c.requires.lattice c.requires.ids 0 0 (in_four 0 _ (omega arith) four)

pub sign-requires-2 : goal.sign-requires-2
sign-requires-2 c =
    let four : length c.args.tet.now.ids ≡ 4 = search rules in
    ids_within c.args.states.now.dims c.args.tet.now.at c.args.tet.now.ids c.requires.lattice c.requires.ids 1 0 (in_four 1 _ (omega arith) four)

pub sign-requires-3 : goal.sign-requires-3
sign-requires-3 c =
    let four : length c.args.tet.now.ids ≡ 4 = search rules in
    ids_within c.args.states.now.dims c.args.tet.now.at c.args.tet.now.ids c.requires.lattice c.requires.ids 2 0 (in_four 2 _ (omega arith) four)

pub sign-requires-4 : goal.sign-requires-4
sign-requires-4 c =
    let four : length c.args.tet.now.ids ≡ 4 = search rules in
    ids_within c.args.states.now.dims c.args.tet.now.at c.args.tet.now.ids c.requires.lattice c.requires.ids 3 0 (in_four 3 _ (omega arith) four)
