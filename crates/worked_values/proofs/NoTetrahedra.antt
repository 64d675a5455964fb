-- A field with no tetrahedra.
use Rattle.worked_values.proofs.AllOpen.{all_open}
use Rattle.std.specs.Prelude.{◌≡◌, None, [], ◌∷◌, map, refl, codes}
use Rattle.definitions.specs.States.{states, code}
use Rattle.definitions.specs.Mesh.{mesh}
use Rattle.definitions.specs.Angles.{angles, extremes_of}
use Rattle.formats.specs.Texts.{sign_line}
use Rattle.worked_values.specs.Fields.{one_above_one_far_below, unsnapped}

pub signs : sign_line one_above_one_far_below ≡ codes "plus 1 zero 0 minus 47\n"
unfolding all_open
signs = refl

pub codes_are : map code (states one_above_one_far_below unsnapped) ≡ 1 ∷ 1 ∷ 1 ∷ 1 ∷ 1 ∷ 1 ∷ 1 ∷ 1 ∷ 1 ∷ 1 ∷ 1 ∷ 1 ∷ 1 ∷ 1 ∷ 1 ∷ 1 ∷ 1 ∷ 1 ∷ 1 ∷ 1 ∷ 1 ∷ 1 ∷ 1 ∷ 262194 ∷ 1 ∷ 1 ∷ 1 ∷ 1 ∷ 1 ∷ 1 ∷ 1 ∷ 1 ∷ 1 ∷ 1 ∷ 1 ∷ 1 ∷ 1 ∷ 1 ∷ 1 ∷ 1 ∷ 1 ∷ 1 ∷ 1 ∷ 1 ∷ 1 ∷ 1 ∷ 1 ∷ 1 ∷ []
unfolding all_open
codes_are = refl

pub tets : (mesh one_above_one_far_below unsnapped).tets ≡ []
unfolding all_open
tets = refl

pub places_are : (mesh one_above_one_far_below unsnapped).places ≡ []
unfolding all_open
places_are = refl

pub no_extremes : extremes_of (angles (mesh one_above_one_far_below unsnapped)) ≡ None
unfolding all_open
no_extremes = refl
