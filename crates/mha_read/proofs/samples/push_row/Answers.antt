use Rattle.std.proofs.Common.{◌∙◌, ◌+◌, ◌*◌, ℤ, length, arith}
use Rattle.std.specs.Prelude.{◌≤ℤ◌}
use Rattle.formats.specs.Samples.{bytes_per_sample, sample_of_bytes}
use Rattle.formats.specs.Volumes.{least_of, greatest_of}
use Rattle.mha_read.proofs.PushedRows.{kind_fits, pushed, within_row, more_numbers, all_pushed}
use Rattle.mha_read.proofs.samples.push_row.Goals as goal

pub sample_at-requires : goal.sample_at-requires
sample_at-requires c = within_row c.args.first c.args.grid.now.step c.args.grid.now.width c.loop-i.i (bytes_per_sample c.args.grid.now.kind) (length c.args.bytes.now) (omega arith) (omega arith) c.requires.within

pub loop-i-preserved : goal.loop-i-preserved
loop-i-preserved c =
    let new = pushed _ _ c.sample_at.result (kind_fits c.args.grid.now.kind c.sample_at.result c.sample_at.ensures.low c.sample_at.ensures.high) c.in_ok-push.ensures.numbers in
    record {
      kind = c.push.ensures.kind ∙ c.loop-i.invariant.kind;
      numbers = more_numbers (λ i. sample_of_bytes c.args.grid.now.kind c.args.grid.now.big c.args.bytes.now (c.args.first + i * c.args.grid.now.step)) c.loop-i.i _ _ _ c.sample_at.result c.loop-i.invariant.numbers new c.sample_at.ensures.value;
      low = λ all. all_pushed (λ (z : ℤ). least_of c.args.grid.now.kind ≤ℤ z) _ _ c.sample_at.result new (c.loop-i.invariant.low all) c.sample_at.ensures.low;
      high = λ all. all_pushed (λ (z : ℤ). z ≤ℤ greatest_of c.args.grid.now.kind) _ _ c.sample_at.result new (c.loop-i.invariant.high all) c.sample_at.ensures.high;
    }
