use Rattle.std.proofs.Common.{◌++◌, ◌+◌, take, sym, ap, ◌∙◌, subst}
use Rattle.std.specs.Prelude.{flat_map, IsPermutation}
use Rattle.face_neigh.proofs.Groups.{group_more, joined_more}
use Rattle.face_neigh.proofs.gather.join.Goals as goal

pub loop-number-preserved : goal.loop-number-preserved
loop-number-preserved c =
    joined_more c.args.sides.now.items c.loop-number.sides.items c.append_sorted.new.sides.items (flat_map (λ g. g.items) (take c.loop-number.number c.args.groups.now)) (flat_map (λ g. g.items) (take (c.loop-number.number + 1) c.args.groups.now)) c.index-groups-number.result.items
    (group_more (λ g. g.items) c.args.groups.now c.loop-number.number c.index-groups-number.result c.loop-number-test.true ∙ ap (λ g. flat_map (λ g. g.items) (take c.loop-number.number c.args.groups.now) ++ g.items) (sym c.index-groups-number.is)) c.loop-number.invariant
    (subst (λ l. IsPermutation (c.loop-number.sides.items ++ l) c.append_sorted.new.sides.items) c.deref.ensures.value c.in_ok-append_sorted.ensures)
