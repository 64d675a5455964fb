use Rattle.std.proofs.Common.{◌∙◌}
use Rattle.std.specs.Prelude.{slice_index}
use Rattle.definitions.specs.Pieces.{corner_key}
use Rattle.stencils.specs.Frames.{ten_keys}
use Rattle.stencils.proofs.PiecesOfCases.{ten_keys-of_edges}
use Rattle.stencils.proofs.PlacesOfCorners.{key_at_rank}
use Rattle.stencils.proofs.node_key.Goals as goal

pub returns : goal.returns
returns c =
    let t = c.args.tet.now in
    (λ i. slice_index ((c.keys_of-keys.ensures ∙ ((λ j. ten_keys t.ids (c.frame_of-frame.ensures.directions j)) ∙ ten_keys-of_edges t.at t.ids)) i) (c.place_of.ensures.place i))
    ∙ key_at_rank (corner_key t.at t.ids) c.args.corner c.requires.corner
