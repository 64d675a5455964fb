use Rattle.std.proofs.Common.{◌∙◌, ℤ, List, length, refl, ap, sym, subst, arith}
use Rattle.std.specs.Prelude.{◌≤ℤ◌, All}
use Rattle.formats.specs.Samples.{bytes_per_sample, sample_of_bytes}
use Rattle.formats.specs.Volumes.{least_of, greatest_of}
use Rattle.mha_read.proofs.PushedRows.{rows_start, row_within, row_kept, row_left_out}
use Rattle.mha_read.proofs.samples.push_rows.Goals as goal
use Rattle.mha_read.proofs.samples.push_rows.Goals.{then-keeps_row+in_ok-push_row, else-keeps_row}

pub loop-i-init : goal.loop-i-init
loop-i-init c = record {
  kind = refl;
  numbers = rows_start (sample_of_bytes c.args.grid.now.kind c.args.grid.now.big c.args.bytes.now) c.args.grid.now.width c.args.grid.now.height c.args.grid.now.step c.args.row c.args.samples.now.numbers;
  low = λ all. all;
  high = λ all. all;
}

pub push_row-requires-clause-within : goal.push_row-requires-clause-within
push_row-requires-clause-within c = row_within c.loop-i.i c.args.rows c.args.grid.now.width (bytes_per_sample c.args.grid.now.kind) (length c.args.bytes.now) (omega arith) c.requires.within

pub loop-i-preserved : goal.loop-i-preserved
loop-i-preserved c =
    elim c.if-keeps_row.branch [
      | then-keeps_row+in_ok-push_row w ↦
          let same = ap (λ v. v.numbers) w.samples-is in
          record {
            kind = ap (λ v. v.kind) w.samples-is ∙ w.push_row.ensures.kind ∙ c.loop-i.invariant.kind;
            numbers = row_kept (sample_of_bytes c.args.grid.now.kind c.args.grid.now.big c.args.bytes.now) c.args.grid.now.width c.args.grid.now.height c.args.grid.now.step c.args.row c.loop-i.i _ _ _ (sym c.keeps_row.ensures ∙ w.if-keeps_row.true) c.loop-i.invariant.numbers (same ∙ w.in_ok-push_row.ensures.numbers);
            low = λ all. subst (λ (xs : List ℤ). All (λ z. least_of c.args.grid.now.kind ≤ℤ z) xs) (sym same) (w.in_ok-push_row.ensures.low (c.loop-i.invariant.low all));
            high = λ all. subst (λ (xs : List ℤ). All (λ z. z ≤ℤ greatest_of c.args.grid.now.kind) xs) (sym same) (w.in_ok-push_row.ensures.high (c.loop-i.invariant.high all));
          }
      | else-keeps_row w ↦
          let same = ap (λ v. v.numbers) w.samples-is in
          record {
            kind = ap (λ v. v.kind) w.samples-is ∙ c.loop-i.invariant.kind;
            numbers = same ∙ row_left_out (sample_of_bytes c.args.grid.now.kind c.args.grid.now.big c.args.bytes.now) c.args.grid.now.width c.args.grid.now.height c.args.grid.now.step c.args.row c.loop-i.i _ _ (sym c.keeps_row.ensures ∙ w.if-keeps_row.false) c.loop-i.invariant.numbers;
            low = λ all. subst (λ (xs : List ℤ). All (λ z. least_of c.args.grid.now.kind ≤ℤ z) xs) (sym same) (c.loop-i.invariant.low all);
            high = λ all. subst (λ (xs : List ℤ). All (λ z. z ≤ℤ greatest_of c.args.grid.now.kind) xs) (sym same) (c.loop-i.invariant.high all);
          }
    ]
