use Rattle.std.proofs.Common.{ℤ, subst}
use Rattle.mesh_probe.specs.Near.{StartsAxis}
use Rattle.mesh_probe.proofs.Clear.{in_first, in_none, in_second, in_third, match_map}
use Rattle.mesh_probe.proofs.SmallPlaces.{back}
use Rattle.mesh_probe.proofs.search.first_found.Goals as goal

pub returns-in-Some-clause-found : goal.returns-in-Some-clause-found
returns-in-Some-clause-found g c =
    let start = subst (λ (t : ℤ). StartsAxis t c.axis_start-h.result) (back c.args.point.z c.requires.z) c.axis_start-h.ensures.start in
    in_first c.args.field.now c.args.shares c.requires.limits c.args.point c.axis_start-h.result start c.in-Some.hold c.in-Some.ensures.found

pub returns-in-Some-in_layer-clause-found : goal.returns-in-Some-in_layer-clause-found
returns-in-Some-in_layer-clause-found g c =
    let start = subst (λ (t : ℤ). StartsAxis t c.axis_start-h.result) (back c.args.point.z c.requires.z) c.axis_start-h.ensures.start in
    in_second c.args.field.now c.args.shares c.requires.limits c.args.point c.axis_start-h.result start c.in_default.ensures.found c.in-Some-in_layer.hold c.in-Some-in_layer.ensures.found

pub returns-clause-found : goal.returns-clause-found
returns-clause-found g c =
    let start = subst (λ (t : ℤ). StartsAxis t c.axis_start-h.result) (back c.args.point.z c.requires.z) c.axis_start-h.ensures.start in
    let first = c.in_default.ensures.found in
    let second = c.in_default-in_layer.ensures.found in
    match_map c.in_layer-3.result _ _ _ _ (in_none c.args.field.now c.args.shares c.requires.limits c.args.point c.axis_start-h.result start first second)
    (in_third c.args.field.now c.args.shares c.requires.limits c.args.point c.axis_start-h.result start first second) c.in_layer-3.ensures.found
