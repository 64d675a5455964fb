use Rattle.std.proofs.Common.{All, subst}
use Rattle.dihedral.specs.Shapes.{Covers}
use Rattle.dihedral.specs.Stars.{star_at}
use Rattle.dihedral.proofs.Stars.{star_covers}
use Rattle.dihedral.proofs.remembering.Remembering.knows_star.Goals as goal

pub returns : goal.returns
returns c = λ t own. subst (λ o. All (Covers o) (star_at own)) c.self.view_is (star_covers c.self.inside.running own (c.self.invariant.1 t))
