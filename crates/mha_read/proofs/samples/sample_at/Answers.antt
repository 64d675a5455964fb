use Rattle.std.proofs.Common.{◌*◌, ◌∙◌, ap, w64}
use Rattle.std.proofs.lemmas.Int.{to_z-of_z}
use Rattle.mha_read.proofs.PushedRows.{kind_fits, number_at}
use Rattle.mha_read.proofs.samples.sample_at.Goals as goal

pub returns-clause-value : goal.returns-clause-value
returns-clause-value c = to_z-of_z w64 c.decode.result (kind_fits c.args.grid.now.kind c.decode.result c.decode.ensures.low c.decode.ensures.high) ∙ c.decode.ensures.value ∙ number_at c.args.grid.now.kind c.args.grid.now.big c.args.bytes.now c.args.n (c.args.n * c.bytes_per_sample.result) (ap (λ s. c.args.n * s) c.bytes_per_sample.ensures.value)
