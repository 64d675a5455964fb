use Rattle.std.proofs.Common.{sym, arith}
use Rattle.vertex_numbers.proofs.Neighbours.{near_known}
use Rattle.vertex_numbers.proofs.around.sign_towards.Goals as goal

pub state-requires-clause-known : goal.state-requires-clause-known
state-requires-clause-known g c =
    let d = c.in-Some.ensures in
    near_known c.args.dims (g.S.StateSource.knows c.args.from.now) c.args.v c.in-Some-neighbour.w c.in-Some.dir c.args.up c.requires.known (omega (arith, d)) (omega (arith, d)) (sym c.in-Some-neighbour.ensures.vertex)
