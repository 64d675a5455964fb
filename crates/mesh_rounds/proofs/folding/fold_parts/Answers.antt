use Rattle.std.proofs.Common.{◌≡◌, ◌+◌, ◌∙◌, ap, arith, subst}
use Rattle.mesh_rounds.specs.Rounds.{extremes_to}
use Rattle.mesh_rounds.proofs.AllRounds.{found_more}
use Rattle.mesh_rounds.proofs.folding.fold_parts.Goals as goal

pub fold-all-requires-clause-b : goal.fold-all-requires-clause-b
fold-all-requires-clause-b c = c.requires.parts c.loop-number.number _ c.loop-number-test.true

pub loop-number-init : goal.loop-number-init
loop-number-init c = record {
  fractions = c.requires.before;
  found = λ lines s first m are before. before ∙ ap (extremes_to lines s) (let e : first ≡ first + 0 = omega arith in e);
}

pub loop-number-preserved : goal.loop-number-preserved
loop-number-preserved c =
    let n = c.loop-number.number in
    record {
      fractions = c.fold-all.ensures.fractions;
      found = λ lines s first m are before.
          subst (λ k. c.fold-all.result ≡ extremes_to lines s k) (let e : first + n + 1 ≡ first + (n + 1) = omega arith in e)
          (found_more lines s (first + n) c.loop-number.all _ c.fold-all.result m (c.loop-number.invariant.found lines s first m are before) (are.each n _ c.loop-number-test.true).extremes c.fold-all.ensures.joined);
    }
