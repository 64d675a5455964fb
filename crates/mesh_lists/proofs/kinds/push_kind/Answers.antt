use Rattle.mesh_lists.proofs.PiecesOfKinds.{kind_added}
use Rattle.mesh_lists.proofs.kinds.push_kind.Goals as goal

pub returns : goal.returns
returns c =
    kind_added c.push_framed.result c.args.kind c.frame_of_kind-frame.result.now c.args.around.now c.args.tets.now.items c.push_framed.new.tets.items c.frame_of_kind-frame.ensures.frame c.push_framed.ensures
