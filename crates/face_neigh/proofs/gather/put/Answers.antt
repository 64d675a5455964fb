use Rattle.std.proofs.Common.{rules, ◌≡◌, ◌<◌, ◌++◌, [], ◌∷◌, length, ap, ◌∙◌}
use Rattle.face_neigh.proofs.Groups.{one_more}
use Rattle.face_neigh.proofs.gather.put.Goals as goal

pub returns : goal.returns
returns c =
    let more : c.push.new.self.items ≡ c.index-groups-group.result.items ++ c.args.side ∷ [] = search rules in
    let lt : c.min-group.result < length c.args.groups.now = search rules in
    one_more (λ g. g.items) c.args.groups.now c.min-group.result c.push.new.self c.args.side c.index-groups-group.result lt (more ∙ ap (λ g. g.items ++ c.args.side ∷ []) c.index-groups-group.is)
