use Rattle.std.proofs.Common.{sym, subst}
use Rattle.slab_core.specs.States.{CoreState}
use Rattle.slab_core.specs.Sound.{IsSound}
use Rattle.slab_core.proofs.Starts.{starts}
use Rattle.slab_core.proofs.machine.Core.new.Goals as goal

pub invariant_of-result : goal.invariant_of-result
invariant_of-result c = let r = c.requires in subst (λ (s : CoreState). IsSound s) (sym c.in_ok-state.ensures) (starts c.args.layout.now.dims c.args.layout.now.slab c.args.wanted.now c.args.workers r.layout r.wanted r.some r.few)

pub returns-clause-sound : goal.returns-clause-sound
returns-clause-sound c = let r = c.requires in subst (λ (s : CoreState). IsSound s) (sym c.in_ok-state.ensures) (starts c.args.layout.now.dims c.args.layout.now.slab c.args.wanted.now c.args.workers r.layout r.wanted r.some r.few)
