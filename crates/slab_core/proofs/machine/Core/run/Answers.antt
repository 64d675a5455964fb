use Rattle.slab_core.proofs.Consequences.{looks_agree, few_made, all_is_done}
use Rattle.slab_core.proofs.machine.Core.run.Goals as goal

pub returns-in_err-step-clause-looks : goal.returns-in_err-step-clause-looks
returns-in_err-step-clause-looks c = looks_agree c.step.new.self c.step.ensures.sound

pub returns-in_err-step-clause-few_made : goal.returns-in_err-step-clause-few_made
returns-in_err-step-clause-few_made c = few_made c.step.new.self c.step.ensures.sound

pub returns-in_err-step-clause-done : goal.returns-in_err-step-clause-done
returns-in_err-step-clause-done c = all_is_done c.step.new.self c.step.ensures.sound

pub returns-then-not-branch-clause-looks : goal.returns-then-not-branch-clause-looks
returns-then-not-branch-clause-looks c = looks_agree c.step.new.self c.step.ensures.sound

pub returns-then-not-branch-clause-few_made : goal.returns-then-not-branch-clause-few_made
returns-then-not-branch-clause-few_made c = few_made c.step.new.self c.step.ensures.sound

pub returns-then-not-branch-clause-done : goal.returns-then-not-branch-clause-done
returns-then-not-branch-clause-done c = all_is_done c.step.new.self c.step.ensures.sound

pub returns-clause-looks : goal.returns-clause-looks
returns-clause-looks c = looks_agree c.loop-i.self c.loop-i.invariant.sound

pub returns-clause-few_made : goal.returns-clause-few_made
returns-clause-few_made c = few_made c.loop-i.self c.loop-i.invariant.sound

pub returns-clause-done : goal.returns-clause-done
returns-clause-done c = all_is_done c.loop-i.self c.loop-i.invariant.sound
