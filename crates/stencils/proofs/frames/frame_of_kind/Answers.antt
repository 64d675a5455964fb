use Rattle.std.proofs.Common.{ℕ, subst}
use Rattle.stencils.specs.Frames.{FitsFrame}
use Rattle.stencils.proofs.FramesOfKinds.{frame_at, frame_fits, small_at}
use Rattle.stencils.proofs.frames.frame_of_kind.Goals as goal

pub returns-clause-frame : goal.returns-clause-frame
returns-clause-frame c = λ tet ids h e. subst (λ (n : ℕ). FitsFrame tet (frame_at n)) e (frame_fits tet ids h)

pub returns-clause-small : goal.returns-clause-small
returns-clause-small c = small_at c.args.kind c.requires
