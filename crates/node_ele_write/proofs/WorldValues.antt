-- How large a coordinate in a volume's own units is, and that it is exact.
use Rattle.std.proofs.Common.{◌≡◌, ℕ, List, [], ◌∷◌, slice_index_or, ◌^◌, ◌<◌, ℤ, pos, arith, ap, ◌∙◌}
use Rattle.std.specs.Prelude.{unsigned_abs, ◌+ℤ◌, ◌*ℤ◌, ◌<ℤ◌, neg_ℤ}
use Rattle.std.proofs.lemmas.Int.{ints}
use Rattle.formats.specs.declared.Axis.{Axis}
use Rattle.formats.specs.Frames.{AreAxes, IsAxis}
use Rattle.mesh_texts.specs.Frames.{world_value}

-- a spacing times a number of steps
-- the size of an offset
pub offset_size : (o : ℤ) → neg_ℤ (pos (10 ^ 24)) <ℤ o → o <ℤ pos (10 ^ 24) → unsigned_abs o < 10 ^ 24
offset_size o low high = omega (arith, ints)

-- nothing is lost
pub value_exact : (o t r : ℤ) → r ≡ o *ℤ pos (10 ^ 13) +ℤ t *ℤ pos (5 ^ 13) → pos 8192 *ℤ r ≡ pos (10 ^ 13) *ℤ (pos 8192 *ℤ o +ℤ t)
value_exact o t r e = omega (arith, ints)

-- the coordinate from its parts
pub value_is : (axis : Axis) (step : ℕ) (p s t o e r : ℤ) → s ≡ pos step *ℤ p → t ≡ axis.spacing *ℤ s → o ≡ axis.offset *ℤ pos (10 ^ 13) → e ≡ t *ℤ pos (5 ^ 13) → r ≡ o +ℤ e → r ≡ world_value axis step p
value_is axis step p s t o e r s_is t_is o_is e_is r_is =
    let spaced : t ≡ axis.spacing *ℤ (pos step *ℤ p) = t_is ∙ ap (λ (z : ℤ). axis.spacing *ℤ z) s_is in
    let part : e ≡ axis.spacing *ℤ (pos step *ℤ p) *ℤ pos (5 ^ 13) = e_is ∙ ap (λ (z : ℤ). z *ℤ pos (5 ^ 13)) spaced in
    r_is ∙ (λ i. o_is i +ℤ part i)

-- a place on an axis of n kept samples is near enough, where one of each `step` is kept and an axis has no more than 8192
-- the axes of three
pub first_axis : (axes : List Axis) (other : Axis) → AreAxes axes → IsAxis (slice_index_or axes 0 other)
first_axis [] other are = elim are [ ]
first_axis (x ∷ []) other are = elim are [ ]
first_axis (x ∷ (y ∷ [])) other are = elim are [ ]
first_axis (x ∷ (y ∷ (z ∷ (_ ∷ _)))) other are = elim are [ ]
first_axis (x ∷ y ∷ z ∷ []) other are = are.0

pub second_axis : (axes : List Axis) (other : Axis) → AreAxes axes → IsAxis (slice_index_or axes 1 other)
second_axis [] other are = elim are [ ]
second_axis (x ∷ []) other are = elim are [ ]
second_axis (x ∷ (y ∷ [])) other are = elim are [ ]
second_axis (x ∷ (y ∷ (z ∷ (_ ∷ _)))) other are = elim are [ ]
second_axis (x ∷ y ∷ z ∷ []) other are = are.1

pub third_axis : (axes : List Axis) (other : Axis) → AreAxes axes → IsAxis (slice_index_or axes 2 other)
third_axis [] other are = elim are [ ]
third_axis (x ∷ []) other are = elim are [ ]
third_axis (x ∷ (y ∷ [])) other are = elim are [ ]
third_axis (x ∷ (y ∷ (z ∷ (_ ∷ _)))) other are = elim are [ ]
third_axis (x ∷ y ∷ z ∷ []) other are = are.2
