use Rattle.std.proofs.Common.{ℕ, subst, sym}
use Rattle.stencils.specs.Frames.{FitsFrame}
use Rattle.stencils.proofs.FramesOfKinds.{frame_at, frame_fits}
use Rattle.stencils.proofs.frames.frame_of.Goals as goal

pub returns : goal.returns
returns c =
    let t = c.args.tet.now in
    subst (λ (n : ℕ). FitsFrame t.at (frame_at n)) (sym c.number_of_kind.ensures.value) (frame_fits t.at t.ids c.requires)
