use Rattle.std.proofs.Common.{◌+◌, arith, sym, ◌∙◌, ap}
use Rattle.vertex_numbers.specs.Around.{sign_towards, is_plus_there}
use Rattle.vertex_numbers.proofs.Seven.{any_of_seven, none_of_seven}
use Rattle.vertex_numbers.proofs.around.has_plus_towards.Goals as goal

pub returns-then-is_plus-clause-plus : goal.returns-then-is_plus-clause-plus
returns-then-is_plus-clause-plus g c =
    let told = g.met.S.StateSource.same_told c.args.from.now c.loop-n.from c.loop-n.invariant.same in
    any_of_seven (λ dir. is_plus_there (sign_towards c.args.dims (g.S.StateSource.told c.args.from.now) c.args.v c.args.up dir)) c.loop-n.n c.loop-n-test.true
    (ap (λ t. is_plus_there (sign_towards c.args.dims t c.args.v c.args.up (c.loop-n.n + 1))) (sym told)
    ∙ ap is_plus_there (sym c.sign_towards.ensures.sign) ∙ sym c.is_plus.ensures ∙ c.if-is_plus.true)

pub returns-clause-plus : goal.returns-clause-plus
returns-clause-plus g c =
    none_of_seven (λ dir. is_plus_there (sign_towards c.args.dims (g.S.StateSource.told c.args.from.now) c.args.v c.args.up dir))
    (λ k lt. c.loop-n.invariant.none k (let t = c.loop-n-test.false in omega arith))
