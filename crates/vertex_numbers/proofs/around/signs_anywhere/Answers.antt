use Rattle.std.proofs.Common.{◌+◌, true, None, arith}
use Rattle.std.proofs.lemmas.List.FromFn.{fill_by_all}
use Rattle.vertex_numbers.specs.Around.{sign_towards}
use Rattle.vertex_numbers.proofs.around.signs_anywhere.Goals as goal

pub returns-clause-up : goal.returns-clause-up
returns-clause-up g c =
    let i = c.loop-n.invariant in
    fill_by_all (λ k. sign_towards c.args.dims (g.S.StateSource.told c.args.from.now) c.args.v true (k + 1)) c.loop-n.up 7 None i.len
    (λ k lt. i.each k (let t = c.loop-n-test.false in omega arith))
