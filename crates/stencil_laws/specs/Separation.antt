-- A test that a linear form separates two pieces of a lattice tetrahedron, for all cuts: it is above 0 on the nodes of the
-- one alone, below 0 on those of the other alone, and 0 on the common ones.
use Rattle.std.specs.Prelude.{ℕ, zero, suc, Bool, true, false, not, ◌&&◌, ◌||◌, ◌==◌, nat_lt, List, [], ◌∷◌, ◌++◌, map, filter, flat_map, length, slice_index_or, if◌then◌else◌}
use Rattle.std.specs.List.{list_any, list_all}
use Rattle.std.proofs.Math.IntN.{ℤ, pos, negsuc, ◌*ℤ◌}
use Rattle.definitions.specs.declared.Sign.{Sign}
use Rattle.definitions.specs.declared.Corner.{Corner}
use Rattle.definitions.specs.declared.Corner.TheVariants.{Whole, Cut}
use Rattle.definitions.specs.Stencils.{same_corner, kept}
use Rattle.exact.specs.Polynomials.{Expression, variable, constant, plus, times, negate, evaluate, is_same}
use Rattle.stencil_laws.specs.Cases.{is_node_of}
use Rattle.stencil_laws.specs.NodeRows.{cut_variable, rows_determinant, sign_of}

-- ---- a determinant as a product of factors above 0: columns are taken one after another
pub data Factor : Type 0 where
  whole : Factor
  lower upper : ℕ → Factor

abbrev pub factor_expression : Factor → Expression
factor_expression whole = constant (pos 4096)
factor_expression (lower i) = variable i
factor_expression (upper i) = plus (constant (pos 4096)) (negate (variable i))

-- the columns of a node, and those not yet taken
abbrev pub columns : Corner → List ℕ
columns (Whole a) = a ∷ []
columns (Cut a b) = a ∷ b ∷ []

abbrev pub open_columns : List ℕ → Corner → List ℕ
open_columns taken c = filter (λ j. not (list_any (λ i. i == j) taken)) (columns c)

-- the factor of a node in a column
abbrev pub factor_at : Corner → ℕ → Factor
factor_at (Whole a) j = whole
factor_at (Cut a b) j = if j == a then upper (cut_variable a b) else lower (cut_variable a b)

-- the columns taken, each with its factor, from each node that has just one left; and so many rounds of it
abbrev pub round : List Corner → List ℕ × List Factor → List ℕ × List Factor
round [] s = s
round (c ∷ p) s =
    if length (open_columns s.0 c) == 1
    then (let j = slice_index_or (open_columns s.0 c) 0 0 in round p ((j ∷ s.0), (factor_at c j ∷ s.1)))
    else round p s

abbrev pub rounds : ℕ → List Corner → List ℕ × List Factor → List ℕ × List Factor
rounds zero p s = s
rounds (suc n) p s = rounds n p (round p s)

abbrev pub factors : List Corner → List Factor
factors p = (rounds 4 p ([], [])).1

abbrev pub product_of : List Factor → Expression
product_of [] = constant (pos 1)
product_of (f ∷ fs) = times (factor_expression f) (product_of fs)

-- the sign of a determinant at one choice of cuts
abbrev pub sample_cuts : List ℤ
sample_cuts = pos 1365 ∷ pos 2048 ∷ pos 1000 ∷ pos 3000 ∷ pos 1700 ∷ pos 2500 ∷ []

abbrev pub sign_at_sample : List Corner → ℤ
sign_at_sample p = sign_of (evaluate sample_cuts (rows_determinant p))

abbrev pub factor_is_positive : Factor → Bool
factor_is_positive whole = true
factor_is_positive (lower i) = nat_lt i 6
factor_is_positive (upper i) = nat_lt i 6

-- that sign is the determinant's for all cuts
abbrev pub certified : List Corner → Bool
certified p = list_all factor_is_positive (factors p) && is_same (rows_determinant p) (times (constant (sign_at_sample p)) (product_of (factors p)))

-- a form: a sum of determinants with three nodes given, each with a sign
abbrev pub Part : Type 0
Part = ℤ × List Corner

abbrev pub part_sign : Part → Corner → ℤ
part_sign s c = s.0 *ℤ sign_at_sample (s.1 ++ (c ∷ []))

abbrev pub is_positive : ℤ → Bool
is_positive (pos (suc n)) = true
is_positive _ = false

abbrev pub is_zero : ℤ → Bool
is_zero (pos zero) = true
is_zero _ = false

abbrev pub is_negative : ℤ → Bool
is_negative (negsuc n) = true
is_negative _ = false

abbrev pub all_certified : List Part → Corner → Bool
all_certified form c = list_all (λ s. certified (s.1 ++ (c ∷ []))) form

abbrev pub above : List Part → Corner → Bool
above form c = all_certified form c && (list_all (λ s. not (is_negative (part_sign s c))) form && list_any (λ s. is_positive (part_sign s c)) form)

abbrev pub below : List Part → Corner → Bool
below form c = all_certified form c && (list_all (λ s. not (is_positive (part_sign s c))) form && list_any (λ s. is_negative (part_sign s c)) form)

abbrev pub on : List Part → Corner → Bool
on form c = all_certified form c && list_all (λ s. is_zero (part_sign s c)) form

abbrev pub separates : List Part → List Corner → List Corner → Bool
separates form p q =
    list_all (λ c. if is_node_of q c then on form c else above form c) p && list_all (λ c. if is_node_of p c then on form c else below form c) q

-- the forms to try
abbrev pub forms : List Corner → List Corner → List (List Part)
forms nodes common =
    if length common == 3
    then ((pos 1, common) ∷ []) ∷ ((negsuc 0, common) ∷ []) ∷ []
    else flat_map (λ u. flat_map (λ w. flat_map (λ s. map (λ t. (s, common ++ (u ∷ [])) ∷ (t, common ++ (w ∷ [])) ∷ []) (pos 1 ∷ negsuc 0 ∷ [])) (pos 1 ∷ negsuc 0 ∷ [])) nodes) nodes

abbrev pub pair_is_separated : List Sign → List Corner → List Corner → Bool
pair_is_separated signs p q = list_any (λ form. separates form p q) (forms (kept signs) (filter (is_node_of q) p))

-- the nodes of a piece are independent: each has a form that is 0 on the others and not on it
abbrev pub form_of : List Corner → Corner → List Part
form_of p c = (pos 1, filter (λ d. not (same_corner c d)) p) ∷ []

abbrev pub independent : List Corner → Bool
independent p = list_all (λ c. list_all (λ d. if same_corner c d then above (form_of p c) d || below (form_of p c) d else on (form_of p c) d) p) p
