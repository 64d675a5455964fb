use Rattle.std.proofs.Common.{◌≡◌, ◌≤◌, ◌^◌, ◌∙◌, ap, arith, subst}
use Rattle.definitions.specs.Layout.{slabs}
use Rattle.slab_emit.specs.declared.Lines.TheVariants.{Angles}
use Rattle.mesh_rounds.specs.Rounds.{extremes_to}
use Rattle.mesh_rounds.proofs.AllRounds.{at_end, found_all, none_reached}
use Rattle.mesh_rounds.proofs.rounds.extremes.Goals as goal

pub loop-reached-init : goal.loop-reached-init
loop-reached-init g c = record { reached = none_reached Angles c.args.source.now (subst (λ n. n ≤ 2 ^ 23) c.slabs-slabs.ensures.slabs c.slabs-slabs.ensures.small) c.slabs-slabs.ensures.measured; crew = omega arith }

pub loop-reached-preserved : goal.loop-reached-preserved
loop-reached-preserved g c = record { reached = c.in-Ok.ensures.round.reached; crew = omega arith }

pub returns : goal.returns
returns g c =
    let s = c.args.source.now in
    let end : c.loop-reached.reached.first ≡ slabs s.field.dims s.slab = at_end c.loop-reached.reached.first _ (slabs s.field.dims s.slab) c.loop-reached.invariant.reached.within c.slabs-slabs.ensures.slabs c.loop-reached-test.false in
    found_all Angles s c.loop-reached.reached.found c.slabs-slabs.ensures.size (c.loop-reached.invariant.reached.found ∙ ap (extremes_to Angles s) end)
