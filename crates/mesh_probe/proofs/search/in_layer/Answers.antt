use Rattle.std.proofs.Common.{ℤ, subst}
use Rattle.mesh_probe.specs.Near.{StartsPair}
use Rattle.mesh_probe.proofs.Clear.{layer_first, layer_none, layer_second, match_map}
use Rattle.mesh_probe.proofs.SmallPlaces.{back}
use Rattle.mesh_probe.proofs.search.in_layer.Goals as goal

pub returns-in-Some-clause-found : goal.returns-in-Some-clause-found
returns-in-Some-clause-found g c =
    layer_first c.args.field.now c.args.shares c.requires.limits c.args.point c.args.h c.pair_start-y.result
    (subst (λ (t : ℤ). StartsPair t c.args.h c.pair_start-y.result) (back c.args.point.y c.requires.y) c.pair_start-y.ensures.start) c.in-Some.hold (c.in-Some.ensures).found

pub returns-clause-found : goal.returns-clause-found
returns-clause-found g c =
    let start = subst (λ (t : ℤ). StartsPair t c.args.h c.pair_start-y.result) (back c.args.point.y c.requires.y) c.pair_start-y.ensures.start in
    let first = (c.in_default.ensures).found in
    match_map c.in_row-2.result _ _ _ _ (layer_none c.args.field.now c.args.shares c.requires.limits c.args.point c.args.h c.pair_start-y.result start first)
    (layer_second c.args.field.now c.args.shares c.requires.limits c.args.point c.args.h c.pair_start-y.result start first) c.in_row-2.ensures.found
