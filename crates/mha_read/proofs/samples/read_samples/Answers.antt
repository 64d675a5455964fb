use Rattle.std.proofs.Common.{rules, ◌∙◌, ℕ, ℤ, ap, sym, arith, refl, subst}
use Rattle.std.specs.Prelude.{◌≤ℤ◌}
use Rattle.std.specs.declared.result.Result.TheVariants.{Err}
use Rattle.formats.specs.Volumes.{least_of, greatest_of}
use Rattle.st_base.proofs.Frames.{then_input}
use Rattle.st_base.specs.Samples.{Samples}
use Rattle.mha_read.specs.Samples.{FitsBehind, ReadsSamples, fault_behind}
use Rattle.mha_read.specs.declared.samples.SampleFault.{SampleFault}
use Rattle.mha_read.proofs.RowParts.{no_rows, more_rows, refused, fits_behind, other_fault, none_hold}
use Rattle.mha_read.proofs.samples.read_samples.Goals as goal

pub loop-init : goal.loop-init
loop-init g c = record {
  is_open = search rules;
  faults = refl;
  apart = record { ports = λ p. refl; tried = refl; held = λ n. refl };
  turns = omega arith;
  within = omega arith;
  kind = ap (λ (s : Samples). s.kind) c.in-Ok.ensures;
  takes = no_rows c.args.grid.now _ c.in-Ok.samples.numbers (ap (λ (s : Samples). s.numbers) c.in-Ok.ensures);
  low = none_hold (λ (z : ℤ). least_of c.args.grid.now.kind ≤ℤ z) c.in-Ok.samples.numbers (ap (λ (s : Samples). s.numbers) c.in-Ok.ensures);
  high = none_hold (λ (z : ℤ). z ≤ℤ greatest_of c.args.grid.now.kind) c.in-Ok.samples.numbers (ap (λ (s : Samples). s.numbers) c.in-Ok.ensures);
}

pub behind-requires : goal.behind-requires
behind-requires g c =
    subst (λ (n : ℕ). FitsBehind c.in-Err.fault n) (sym c.bytes_before.ensures)
    (fits_behind c.args.grid.now (g.D.Desk.input c.loop.desk).left (g.D.Desk.input c.read_rows.new.desk).left c.loop.row c.next_part-part.result.0 c.args.rows c.loop.samples.numbers c.read_rows.new.samples.numbers c.in-Err.fault c.requires.grid c.in-Err.ensures.rows (omega (arith, c.next_part-part.ensures.within)) c.requires.bound)

pub returns-in-Err-clause-samples : goal.returns-in-Err-clause-samples
returns-in-Err-clause-samples g c =
    let all = refused c.args.grid.now (g.D.Desk.input c.args.desk.now).left (g.D.Desk.input c.loop.desk).left (g.D.Desk.input c.read_rows.new.desk).left c.loop.row c.next_part-part.result.0 c.args.rows c.loop.samples.numbers c.read_rows.new.samples.numbers c.in-Err.fault c.loop.invariant.takes c.in-Err.ensures.rows (omega (arith, c.next_part-part.ensures.within)) in
    let same = c.behind.ensures ∙ ap (fault_behind c.in-Err.fault) c.bytes_before.ensures in
    subst (λ (f : SampleFault). ReadsSamples c.args.grid.now (g.D.Desk.input c.args.desk.now).left (g.D.Desk.input c.read_rows.new.desk).left c.args.rows (Err f)) (sym same) all

pub returns-in-Err-clause-none : goal.returns-in-Err-clause-none
returns-in-Err-clause-none g c = λ other. c.in-Err.ensures.none (other_fault _ c.in-Err.fault c.behind.result _ c.behind.ensures other) ∙ c.loop.invariant.faults

pub loop-preserved : goal.loop-preserved
loop-preserved g c = record {
  is_open = c.in-Ok-read_rows.ensures.is_open;
  faults = c.in-Ok-read_rows.ensures.none (λ e. cc) ∙ c.loop.invariant.faults;
  apart = then_input c.loop.invariant.apart c.in-Ok-read_rows.ensures.apart;
  turns = omega (arith, c.next_part-part.ensures.some);
  within = omega (arith, c.next_part-part.ensures.within);
  kind = c.read_rows.ensures.kind ∙ c.loop.invariant.kind;
  takes = more_rows c.args.grid.now _ _ _ c.loop.row c.next_part-part.result.0 _ _ c.requires.grid c.loop.invariant.takes c.in-Ok-read_rows.ensures.rows;
  low = c.in-Ok-read_rows.ensures.low c.loop.invariant.low;
  high = c.in-Ok-read_rows.ensures.high c.loop.invariant.high;
}
