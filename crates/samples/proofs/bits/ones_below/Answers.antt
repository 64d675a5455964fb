use Rattle.std.proofs.Common.{◌<◌, ap, sym, ◌∙◌, arith}
use Rattle.std.specs.Int.{bit_at}
use Rattle.std.proofs.lemmas.Nat.Bits.{bit_at_ones}
use Rattle.samples.proofs.SetBits.{ones_are, one_of_ones}
use Rattle.samples.proofs.bits.ones_below.Goals as goal

pub returns-then-n-lt64-clause-below : goal.returns-then-n-lt64-clause-below
returns-then-n-lt64-clause-below c b h =
    let few : c.args.n < 64 = omega arith in
    one_of_ones c.args.n b (ap (λ m. bit_at m b) (sym (ones_are c.args.n few)) ∙ h)

pub returns-then-n-lt64-clause-each : goal.returns-then-n-lt64-clause-each
returns-then-n-lt64-clause-each c b below h =
    let few : c.args.n < 64 = omega arith in
    ap (λ m. bit_at m b) (ones_are c.args.n few) ∙ bit_at_ones c.args.n b below

pub returns-else-n-lt64-clause-below : goal.returns-else-n-lt64-clause-below
returns-else-n-lt64-clause-below c b h = let low = one_of_ones 64 b h in omega arith

pub returns-else-n-lt64-clause-each : goal.returns-else-n-lt64-clause-each
returns-else-n-lt64-clause-each c b below h = bit_at_ones 64 b h
