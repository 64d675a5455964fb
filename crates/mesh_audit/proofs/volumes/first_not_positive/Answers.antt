use Rattle.std.proofs.Common.{arith, below_more, not, [], sym, ap, ◌∙◌}
use Rattle.mesh_files.specs.Verdicts.{is_positive}
use Rattle.mesh_audit.proofs.Positions.{position_is, position_none}
use Rattle.mesh_audit.proofs.volumes.first_not_positive.Goals as goal

pub returns-then-not-is_positive-clause-value : goal.returns-then-not-is_positive-clause-value
returns-then-not-is_positive-clause-value c = sym (position_is (λ t. not (is_positive c.args.places.now t)) c.args.tets.now c.loop-i.i [] c.loop-i-test.true c.loop-i.invariant (ap not (sym c.is_positive.ensures ∙ c.if-not-is_positive.true)))

pub loop-i-preserved : goal.loop-i-preserved
loop-i-preserved c = below_more _ _ c.loop-i.invariant (ap not (sym c.is_positive.ensures ∙ c.if-not-is_positive.false))

pub returns-clause-value : goal.returns-clause-value
returns-clause-value c = sym (position_none (λ t. not (is_positive c.args.places.now t)) c.args.tets.now [] (λ k lt. c.loop-i.invariant k (omega arith)))
