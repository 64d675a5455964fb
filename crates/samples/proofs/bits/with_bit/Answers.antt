use Rattle.std.proofs.Common.{◌*◌, ◌%◌, ◌^◌, sym, ◌∙◌}
use Rattle.std.specs.Prelude.{bit_or}
use Rattle.std.specs.Int.{bit_at}
use Rattle.samples.proofs.SetBits.{set_too}
use Rattle.samples.proofs.bits.with_bit.Goals as goal

pub returns : goal.returns
returns c i h = set_too c.args.word c.args.b 64 i c.args.set ((λ t. bit_at (bit_or c.args.word (sym c.from.ensures t * 2 ^ c.args.b % 2 ^ 64)) i) ∙ h)
