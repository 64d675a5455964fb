use Rattle.std.proofs.Common.{◌∙◌}
use Rattle.dihedral.proofs.faces.Faces.square_at.Goals as goal

pub returns-clause-value : goal.returns-clause-value
returns-clause-value c = λ tet f. c.square.ensures.value ∙ c.pair_at.ensures tet f
