use Rattle.std.proofs.Common.{ℤ, subst}
use Rattle.mesh_probe.specs.Near.{StartsPair}
use Rattle.mesh_probe.proofs.Clear.{match_map, row_first, row_none, row_second}
use Rattle.mesh_probe.proofs.SmallPlaces.{back}
use Rattle.mesh_probe.proofs.search.in_row.Goals as goal

pub returns-in-Some-clause-found : goal.returns-in-Some-clause-found
returns-in-Some-clause-found g c =
    row_first c.args.field.now c.args.shares c.requires.limits c.args.point c.args.h c.args.y c.pair_start-x.result
    (subst (λ (t : ℤ). StartsPair t c.args.h c.pair_start-x.result) (back c.args.point.x c.requires.x) c.pair_start-x.ensures.start) c.in-Some.hold (c.in-Some.ensures).found

pub returns-clause-found : goal.returns-clause-found
returns-clause-found g c =
    let start = subst (λ (t : ℤ). StartsPair t c.args.h c.pair_start-x.result) (back c.args.point.x c.requires.x) c.pair_start-x.ensures.start in
    let first = (c.in_default.ensures).found in
    match_map c.at_vertex-2.result _ _ _ _ (row_none c.args.field.now c.args.shares c.requires.limits c.args.point c.args.h c.args.y c.pair_start-x.result start first)
    (row_second c.args.field.now c.args.shares c.requires.limits c.args.point c.args.h c.args.y c.pair_start-x.result start first) c.at_vertex-2.ensures.found
