use Rattle.std.proofs.Common.{◌≡◌, ap, ◌∙◌, arith}
use Rattle.std.specs.Prelude.{bit_and}
use Rattle.std.specs.Int.{bit_at}
use Rattle.std.proofs.lemmas.Bool.Decides.{nat_tests}
use Rattle.samples.proofs.SetBits.{in_both}
use Rattle.samples.proofs.bits.has_all.Goals as goal

pub returns : goal.returns
returns c e b h =
    let same : bit_and c.args.word c.args.ones ≡ c.args.ones = grind (arith, nat_tests) in
    (in_both c.args.word c.args.ones b (ap (λ m. bit_at m b) same ∙ h)).0
