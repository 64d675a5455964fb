use Rattle.std.proofs.Common.{◌<◌, arith, List, ℕ, length, subst, ◌∙◌}
use Rattle.definitions.specs.Angles.{angles_of}
use Rattle.definitions.specs.Soundness.{IsPositive}
use Rattle.near_laws.specs.Near.{IsPlaced}
use Rattle.mesh_lists.proofs.MeshAngles.{all_told, bounded, holds_at, none_told, one_more, told_by}
use Rattle.mesh_lists.proofs.angles.extremes.Goals as goal

pub loop-number-init : goal.loop-number-init
loop-number-init c = c.new-running.ensures ∙ none_told (angles_of c.places-places.result.now) c.args.mesh.now.tets

pub take-requires-clause-placed : goal.take-requires-clause-placed
take-requires-clause-placed c = holds_at IsPlaced c.args.mesh.now c.places-places.result.now c.tets-tets.result.now c.loop-number.number c.tets-tets.ensures.placed c.places-places.ensures c.tets-tets.ensures.tets c.loop-number-test.true

pub take-requires-clause-positive : goal.take-requires-clause-positive
take-requires-clause-positive c = holds_at IsPositive c.args.mesh.now c.places-places.result.now c.tets-tets.result.now c.loop-number.number c.tets-tets.ensures.positive c.places-places.ensures c.tets-tets.ensures.tets c.loop-number-test.true

pub loop-number-preserved : goal.loop-number-preserved
loop-number-preserved c =
    one_more (angles_of c.places-places.result.now) c.args.mesh.now.tets c.loop-number.number c.take.new.running (subst (λ (ts : List (List ℕ)). c.loop-number.number < length ts) c.tets-tets.ensures.tets c.loop-number-test.true)
    (told_by (angles_of c.places-places.result.now) c.args.mesh.now.tets c.tets-tets.result.now c.loop-number.number c.take.new.running c.tets-tets.ensures.tets (c.take.ensures _ c.loop-number.invariant))

pub returns-clause-value : goal.returns-clause-value
returns-clause-value c =
    all_told c.args.mesh.now c.places-places.result.now c.tets-tets.result.now c.loop-number.number c.found.result c.places-places.ensures c.tets-tets.ensures.tets (omega arith)
    (c.found.ensures.value ∙ c.loop-number.invariant)

pub returns-clause-none : goal.returns-clause-none
returns-clause-none c = (bounded c.args.mesh.now c.found.result c.tets-tets.ensures.positive (returns-clause-value c)).none

pub returns-clause-bounds : goal.returns-clause-bounds
returns-clause-bounds c = (bounded c.args.mesh.now c.found.result c.tets-tets.ensures.positive (returns-clause-value c)).some
