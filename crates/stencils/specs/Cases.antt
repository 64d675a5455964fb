-- The pieces of a lattice tetrahedron by its four signs and its orientation, and the table of them.
use Rattle.std.specs.Prelude.{◌≡◌, ℕ, ◌+◌, ◌*◌, Bool, true, false, nat_lt, IsTrue, List, [], ◌∷◌, length, map, take, slice_index_or, pos, int_lt}
use Rattle.std.specs.List.{list_all}
use Rattle.definitions.specs.declared.Vertex.{Vertex}
use Rattle.definitions.specs.declared.Sign.{Sign}
use Rattle.definitions.specs.declared.Sign.TheVariants.{Minus, Zero, Plus}
use Rattle.definitions.specs.declared.Corner.{Corner}
use Rattle.definitions.specs.declared.Corner.TheVariants.{Whole}
use Rattle.definitions.specs.Lattice.{vertex}
use Rattle.definitions.specs.Vectors.{det}
use Rattle.definitions.specs.Stencils.{sign_at, same_corner, corners, facets, kept}
use Rattle.definitions.specs.Facets.{fill}
use Rattle.definitions.specs.Pieces.{middle, oriented}
use Rattle.stencils.specs.declared.cases.Case.{Case}
use Rattle.stencils.specs.declared.cases.Row.{Row}

-- the volume of a tetrahedron is below zero
abbrev pub is_turned : List Vertex → Bool
is_turned tet = int_lt (det (map (middle tet) (Whole 0 ∷ Whole 1 ∷ Whole 2 ∷ Whole 3 ∷ []))) (pos 0)

-- a lattice tetrahedron whose volume is above zero, and one whose volume is below
abbrev pub model : Bool → List Vertex
model false = vertex 2 2 2 ∷ vertex 2 4 2 ∷ vertex 3 3 1 ∷ vertex 3 3 3 ∷ []
model true = vertex 2 2 2 ∷ vertex 2 2 4 ∷ vertex 3 1 3 ∷ vertex 3 3 3 ∷ []

-- the pieces with these signs of any lattice tetrahedron that is turned, or not, as the model is
unfoldable pub case_pieces : Bool → List Sign → List (List Corner)
case_pieces turned signs = map (oriented (model turned)) (fill same_corner (facets signs) (kept signs))

-- a node by its place among all ten
abbrev pub corner_at : ℕ → Corner
corner_at n = slice_index_or corners n (Whole 4)

-- the pieces of an entry of the table
abbrev pub listed : Case → List (List ℕ)
listed case = take case.len case.of

-- each place is one of the ten
abbrev pub has_places : Case → Bool
has_places case = list_all (list_all (λ n. nat_lt n 10)) case.of

-- the entry has the pieces of its signs
pub record IsCase (turned : Bool) (signs : List Sign) (case : Case) : Type 0 where
  pub pieces : map (map corner_at) (listed case) ≡ case_pieces turned signs
  pub places : IsTrue (has_places case)
  pub count : length (listed case) ≡ case.len

pub record FitsCase (signs : List Sign) (row : Row) : Type 0 where
  pub straight : IsCase false signs row.straight
  pub turned : IsCase true signs row.turned

-- where the row of these signs stands
abbrev pub sign_number : Sign → ℕ
sign_number Minus = 0
sign_number Zero = 1
sign_number Plus = 2

abbrev pub row_place : List Sign → ℕ
row_place signs = ((sign_number (sign_at signs 0) * 3 + sign_number (sign_at signs 1)) * 3 + sign_number (sign_at signs 2)) * 3 + sign_number (sign_at signs 3)
