use Rattle.std.proofs.Common.{true}
use Rattle.vertex_numbers.proofs.Neighbours.{near_known}
use Rattle.vertex_numbers.proofs.around.sign_there.Goals as goal

pub sign_by_id-requires-clause-known : goal.sign_by_id-requires-clause-known
sign_by_id-requires-clause-known g c =
    near_known c.args._dims (g.S.StateSource.knows c.args.from.now) c.args._v c.args.w c.args._number true c.requires.known c.requires.low c.requires.high c.requires.neighbour.is
