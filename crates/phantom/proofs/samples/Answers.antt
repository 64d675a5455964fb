use Rattle.std.proofs.Common.{◌≡◌, ◌+◌, ℕ, ◌∙◌, ap, ◌++◌}
use Rattle.phantom.specs.Rows.{row_samples}
use Rattle.phantom.proofs.Rows.{more_rows, more_noise, row_rest}
use Rattle.phantom.proofs.samples.Goals as goal

pub loop-row-preserved : goal.loop-row-preserved
loop-row-preserved c =
    let rest : c.off_middle.result + c.off_middle-in-loop-row.result ≡ row_rest c.args.n c.loop-row.row = λ i. c.off_middle.ensures.value i + c.off_middle-in-loop-row.ensures.value i in
    record {
      kind = c.push_row.ensures.kind;
      numbers = more_rows c.args.n c.args.seed c.loop-row.row c.loop-row.state _ _ c.loop-row.invariant.numbers c.loop-row.invariant.state (c.in_ok-push_row.ensures.numbers ∙ ap (λ (r : ℕ). c.loop-row.samples.numbers ++ row_samples c.args.n r c.loop-row.state c.args.n) rest);
      state = more_noise c.args.n c.args.seed c.loop-row.row c.loop-row.state _ c.loop-row.invariant.state c.in_ok-push_row.ensures.state;
    }
