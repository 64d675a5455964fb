use Rattle.std.proofs.Common.{ap, ◌∙◌}
use Rattle.std.specs.Prelude.{unwrap_or}
use Rattle.definitions.specs.Stencils.{corners, same_corner}
use Rattle.stencils.proofs.PlacesOfCorners.{position_found}
use Rattle.stencils.proofs.place_of.Goals as goal

pub returns-clause-place : goal.returns-clause-place
returns-clause-place c = c.unwrap_or.ensures ∙ (ap (λ o. unwrap_or o 0) c.find_corner.ensures ∙ position_found (same_corner c.args.corner) corners 0 c.requires)
