use Rattle.std.proofs.Common.{rules, ◌≡◌, ◌++◌, List, [], ◌∷◌, length, subst}
use Rattle.std.specs.Prelude.{OnOk}
use Rattle.definitions.specs.Soundness.{triangles_of}
use Rattle.face_neigh.specs.declared.side.Side.{Side}
use Rattle.face_neigh.specs.Sides.{sides_from}
use Rattle.face_neigh.proofs.SideLists.{four_pushed}
use Rattle.face_neigh.proofs.sides.push_four.Goals as goal

pub returns-clause-sides : goal.returns-clause-sides
returns-clause-sides c =
    let len : length c.args.tet ≡ 4 = search rules in
    let made : c.push-3.new.sides.items ++ c.new-4.result ∷ [] ≡ c.args.sides.now.items ++ sides_from c.args.place (triangles_of c.args.tet) =
    four_pushed c.args.place c.args.tet len _ _ _ _ _ _ _ _ c.in_ok-push.ensures.more c.in_ok-push-2.ensures.more c.in_ok-push-3.ensures.more c.new.ensures.side c.new-2.ensures.side c.new-3.ensures.side c.new-4.ensures.side in
    subst (λ (t : List Side). OnOk c.push-4.result (c.push-4.new.sides.items ≡ t)) made c.push-4.ensures.more

pub returns-clause-small : goal.returns-clause-small
returns-clause-small c =
    λ h. c.push-4.ensures.small (c.in_ok-push-3.ensures.small (c.in_ok-push-2.ensures.small (c.in_ok-push.ensures.small h c.new.ensures.small) c.new-2.ensures.small) c.new-3.ensures.small) c.new-4.ensures.small
