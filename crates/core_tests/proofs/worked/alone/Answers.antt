use Rattle.std.proofs.Common.{◌≡◌, [], ◌∷◌, true, refl, ap, ◌∙◌}
use Rattle.definitions.specs.Lattice.{vertices}
use Rattle.slab_core.specs.States.{CoreState}
use Rattle.slab_core.specs.Steps.{worker}
use Rattle.slab_core.specs.Results.{all_made, all_done}
use Rattle.core_tests.specs.declared.worked.TheConstants.{ALONE}
use Rattle.core_tests.proofs.WorkedScripts.{left, left_by}
use Rattle.core_tests.proofs.worked.alone.Goals as goal

made_once : all_made (left 1 ALONE) ≡ 0 ∷ 1 ∷ 2 ∷ 3 ∷ 4 ∷ []
unfolding vertices
made_once = refl

done_once : all_done (left 1 ALONE) ≡ 0 ∷ 1 ∷ 2 ∷ []
unfolding vertices
done_once = refl

gone_at_last : (worker (left 1 ALONE) 0).gone ≡ true
unfolding vertices
gone_at_last = refl

pub returns-clause-made : goal.returns-clause-made
returns-clause-made c = ap all_made (left_by 1 _ ALONE _ _ c.in_ok-core.ensures c.in-Ok.ensures.counted c.in-Ok.ensures.after) ∙ made_once

pub returns-clause-done : goal.returns-clause-done
returns-clause-done c = ap all_done (left_by 1 _ ALONE _ _ c.in_ok-core.ensures c.in-Ok.ensures.counted c.in-Ok.ensures.after) ∙ done_once

pub returns-clause-gone : goal.returns-clause-gone
returns-clause-gone c = ap (λ (s : CoreState). (worker s 0).gone) (left_by 1 _ ALONE _ _ c.in_ok-core.ensures c.in-Ok.ensures.counted c.in-Ok.ensures.after) ∙ gone_at_last
