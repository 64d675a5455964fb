-- Each of the 81 rows fits its signs: a test over all of them, and its use at one.
use Rattle.std.proofs.Common.{◌≡◌, Bool, true, false, List, length, refl}
use Rattle.definitions.specs.declared.Sign.{Sign}
use Rattle.std.specs.Prelude.{count_by}
use Rattle.definitions.specs.Stencils.{is_plus, is_zero, is_minus, kept, facets}
use Rattle.corner_table.specs.declared.Shape.{Shape}
use Rattle.corner_table.specs.declared.Shape.TheVariants.{Nothing, Tetra, Pyramid, Prism}
use Rattle.corner_table.specs.Rows.{row_fits, row_by_signs, solid_at, shape_by_counts}
use Rattle.lattice_laws.specs.FiniteTests.{every_case}
use Rattle.lattice_laws.proofs.FiniteTests.{each_case}

-- each row fits its signs
all_fit : every_case (λ xs. row_fits xs (row_by_signs xs)) ≡ true
unfolding row_fits row_by_signs solid_at kept facets
all_fit = refl

-- each row fits its signs: it has the kept nodes and their facets
pub fits_all : (xs : List Sign) → length xs ≡ 4 → row_fits xs (row_by_signs xs) ≡ true
fits_all xs len = each_case (λ xs. row_fits xs (row_by_signs xs)) all_fit xs len

abbrev same_shape : Shape → Shape → Bool
same_shape Nothing Nothing = true
same_shape Tetra Tetra = true
same_shape Pyramid Pyramid = true
same_shape Prism Prism = true
same_shape a b = false

shape_from_same : (a b : Shape) → same_shape a b ≡ true → a ≡ b
shape_from_same Nothing Nothing h = refl
shape_from_same Tetra Tetra h = refl
shape_from_same Pyramid Pyramid h = refl
shape_from_same Prism Prism h = refl
shape_from_same Nothing Tetra h = cc
shape_from_same Nothing Pyramid h = cc
shape_from_same Nothing Prism h = cc
shape_from_same Tetra Nothing h = cc
shape_from_same Tetra Pyramid h = cc
shape_from_same Tetra Prism h = cc
shape_from_same Pyramid Nothing h = cc
shape_from_same Pyramid Tetra h = cc
shape_from_same Pyramid Prism h = cc
shape_from_same Prism Nothing h = cc
shape_from_same Prism Tetra h = cc
shape_from_same Prism Pyramid h = cc

abbrev shape_fits : List Sign → Bool
shape_fits xs = same_shape (row_by_signs xs).shape (shape_by_counts (count_by is_plus xs) (count_by is_zero xs) (count_by is_minus xs))

-- the shape of a row is that of its counts of signs
pub shape_all : (xs : List Sign) → length xs ≡ 4 → (row_by_signs xs).shape ≡ shape_by_counts (count_by is_plus xs) (count_by is_zero xs) (count_by is_minus xs)
unfolding row_by_signs solid_at
shape_all xs len = shape_from_same _ _ (each_case shape_fits refl xs len)
