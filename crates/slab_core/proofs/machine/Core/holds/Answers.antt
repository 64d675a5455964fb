use Rattle.std.proofs.Common.{subst}
use Rattle.slab_core.specs.States.{CoreState}
use Rattle.slab_core.specs.Results.{LooksAgree, FewMade, AllGone, IsDone}
use Rattle.slab_core.proofs.Consequences.{looks_agree, few_made, all_is_done}
use Rattle.slab_core.proofs.machine.Core.holds.Goals as goal

pub returns-clause-looks : goal.returns-clause-looks
returns-clause-looks c = subst (λ (s : CoreState). LooksAgree s) c.self.view_is (looks_agree c.self.inside.state c.self.invariant)

pub returns-clause-few_made : goal.returns-clause-few_made
returns-clause-few_made c = subst (λ (s : CoreState). FewMade s) c.self.view_is (few_made c.self.inside.state c.self.invariant)

pub returns-clause-done : goal.returns-clause-done
returns-clause-done c = subst (λ (s : CoreState). AllGone s → IsDone s) c.self.view_is (all_is_done c.self.inside.state c.self.invariant)
