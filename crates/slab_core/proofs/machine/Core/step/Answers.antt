use Rattle.std.proofs.Common.{sym, ◌∙◌, subst}
use Rattle.slab_core.specs.States.{CoreState}
use Rattle.slab_core.specs.Sound.{IsSound}
use Rattle.slab_core.proofs.Keeps.{keeps}
use Rattle.slab_core.proofs.machine.Core.step.Goals as goal

pub invariant_of-self-2 : goal.invariant_of-self-2
invariant_of-self-2 c = subst (λ (s : CoreState). IsSound s) (sym c.in_ok-apply.ensures.ok) (keeps c.args.event c.self.inside.state c.self.invariant (sym c.allows.ensures ∙ c.if-not-allows.false))

pub returns-clause-sound : goal.returns-clause-sound
returns-clause-sound c = subst (λ (s : CoreState). IsSound s) (sym c.in_ok-apply.ensures.ok) (keeps c.args.event c.self.inside.state c.self.invariant (sym c.allows.ensures ∙ c.if-not-allows.false))
