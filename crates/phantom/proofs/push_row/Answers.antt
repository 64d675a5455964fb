use Rattle.std.proofs.Common.{◌∙◌, ◌+◌, ap}
use Rattle.phantom.proofs.Rows.{pushed, more_samples, one_more_state}
use Rattle.phantom.specs.Phantom.{faded}
use Rattle.phantom.proofs.push_row.Goals as goal

pub loop-x-preserved : goal.loop-x-preserved
loop-x-preserved c =
    let noise = one_more_state c.args.state.now c.loop-x.x c.loop-x.state c.next_state.result c.loop-x.invariant.state c.next_state.ensures in
    let new = pushed _ _ c.faded.result c.faded.ensures.low c.faded.ensures.high c.in_ok-push.ensures.numbers in
    let value = c.faded.ensures.value ∙ ap (λ m. faded c.args.n (m + c.args.rest) c.next_state.result) c.off_middle.ensures.value in
    record {
      kind = c.push.ensures.kind ∙ c.loop-x.invariant.kind;
      numbers = more_samples c.args.n c.args.rest c.args.state.now c.loop-x.x c.next_state.result _ _ _ c.faded.result c.loop-x.invariant.numbers new value noise;
      state = noise;
    }
