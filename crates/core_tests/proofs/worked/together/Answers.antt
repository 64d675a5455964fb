use Rattle.std.proofs.Common.{◌≡◌, [], ◌∷◌, refl, ap, ◌∙◌}
use Rattle.definitions.specs.Lattice.{vertices}
use Rattle.slab_core.specs.Results.{all_made}
use Rattle.core_tests.specs.declared.worked.TheConstants.{TOGETHER}
use Rattle.core_tests.proofs.WorkedScripts.{left, left_by}
use Rattle.core_tests.proofs.worked.together.Goals as goal

made_twice : all_made (left 2 TOGETHER) ≡ 0 ∷ 0 ∷ []
unfolding vertices
made_twice = refl

pub returns : goal.returns
returns c = ap all_made (left_by 2 _ TOGETHER _ _ c.in_ok-core.ensures c.in-Ok.ensures.counted c.in-Ok.ensures.after) ∙ made_twice
