-- Each of the 81 rows of the table has the pieces of its signs: one computation, and its use at four signs.
use Rattle.std.proofs.Common.{◌≡◌, ℕ, Bool, true, false, ◌&&◌, nat_eq, List, [], length, map, refl}
use Rattle.std.proofs.lemmas.Bool.{eqb-true, and_parts}
use Rattle.std.specs.Prelude.{slice_index_or}
use Rattle.definitions.specs.declared.Sign.{Sign}
use Rattle.definitions.specs.Stencils.{kept, facets}
use Rattle.definitions.specs.Facets.{fill}
use Rattle.definitions.specs.Pieces.{oriented}
use Rattle.lattice_laws.specs.FiniteTests.{every_case}
use Rattle.lattice_laws.proofs.FiniteTests.{each_case}
use Rattle.stencils.specs.declared.cases.Case.{Case}
use Rattle.stencils.specs.declared.cases.Row.{Row}
use Rattle.stencils.specs.declared.cases.TheConstants.{ROWS}
use Rattle.stencils.specs.Cases.{case_pieces, corner_at, listed, has_places, IsCase, FitsCase, row_place}
use Rattle.lattice_laws.proofs.SamePieces.{same_pieces, pieces_from_same}

abbrev pub no_case : Case
no_case = record { len = 0; of = [] }

abbrev pub row_at : ℕ → Row
row_at n = slice_index_or ROWS n (record { straight = no_case; turned = no_case })

abbrev is_case : Bool → List Sign → Case → Bool
is_case turned signs case = same_pieces (map (map corner_at) (listed case)) (case_pieces turned signs) && (has_places case && nat_eq (length (listed case)) case.len)

abbrev is_row : List Sign → Row → Bool
is_row signs row = is_case false signs row.straight && is_case true signs row.turned

all_rows_fit : every_case (λ signs. is_row signs (row_at (row_place signs))) ≡ true
unfolding kept facets fill oriented case_pieces
all_rows_fit = refl

from_test : (turned : Bool) (signs : List Sign) (case : Case) → is_case turned signs case ≡ true → IsCase turned signs case
from_test turned signs case e =
    let f = and_parts (same_pieces (map (map corner_at) (listed case)) (case_pieces turned signs)) _ e in
    let g = and_parts (has_places case) _ f.1 in
    record { pieces = pieces_from_same _ _ f.0; places = g.0; count = eqb-true _ _ g.1 }

pub row_fits : (signs : List Sign) → length signs ≡ 4 → FitsCase signs (row_at (row_place signs))
row_fits signs len =
    let e = each_case (λ signs. is_row signs (row_at (row_place signs))) all_rows_fit signs len in
    let f = and_parts (is_case false signs (row_at (row_place signs)).straight) _ e in
    record { straight = from_test _ _ _ f.0; turned = from_test _ _ _ f.1 }
