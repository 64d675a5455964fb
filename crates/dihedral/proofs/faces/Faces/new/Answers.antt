use Rattle.std.proofs.Common.{◌≤◌, sym, subst, ◌∙◌, unsigned_abs}
use Rattle.definitions.specs.declared.Place.{Place}
use Rattle.definitions.specs.Vectors.{cross, dot, place_at}
use Rattle.dihedral.specs.TetFaces.{closing}
use Rattle.dihedral.proofs.FaceNormals.{first_is_some, second_is_some, third_is_some, fourth_is_some}
use Rattle.dihedral.proofs.NormalSums.{by_three, closing-is}
use Rattle.dihedral.proofs.faces.Faces.new.Goals as goal

pub by-requires-clause-some_first : goal.by-requires-clause-some_first
by-requires-clause-some_first c =
    let second = c.cross.ensures.value ∙ (λ i. cross (c.minus-up.ensures i) (c.minus-across.ensures i)) in
    let third = c.cross-2.ensures.value ∙ (λ i. cross (c.minus-along.ensures i) (c.minus-up.ensures i)) in
    let fourth = c.cross-3.ensures.value ∙ (λ i. cross (c.minus-across.ensures i) (c.minus-along.ensures i)) in
    subst (λ (v : Place). 1 ≤ unsigned_abs (dot v v)) (sym ((λ i. closing (second i) (third i) (fourth i)) ∙ closing-is (place_at c.args.tet 0) (place_at c.args.tet 1) (place_at c.args.tet 2) (place_at c.args.tet 3))) (first_is_some (place_at c.args.tet 0) (place_at c.args.tet 1) (place_at c.args.tet 2) (place_at c.args.tet 3) c.requires.positive)

pub by-requires-clause-some_second : goal.by-requires-clause-some_second
by-requires-clause-some_second c = subst (λ (v : Place). 1 ≤ unsigned_abs (dot v v)) (sym (c.cross.ensures.value ∙ (λ i. cross (c.minus-up.ensures i) (c.minus-across.ensures i)))) (second_is_some (place_at c.args.tet 0) (place_at c.args.tet 1) (place_at c.args.tet 2) (place_at c.args.tet 3) c.requires.positive)

pub by-requires-clause-some_third : goal.by-requires-clause-some_third
by-requires-clause-some_third c = subst (λ (v : Place). 1 ≤ unsigned_abs (dot v v)) (sym (c.cross-2.ensures.value ∙ (λ i. cross (c.minus-along.ensures i) (c.minus-up.ensures i)))) (third_is_some (place_at c.args.tet 0) (place_at c.args.tet 1) (place_at c.args.tet 2) (place_at c.args.tet 3) c.requires.positive)

pub by-requires-clause-some_fourth : goal.by-requires-clause-some_fourth
by-requires-clause-some_fourth c = subst (λ (v : Place). 1 ≤ unsigned_abs (dot v v)) (sym (c.cross-3.ensures.value ∙ (λ i. cross (c.minus-across.ensures i) (c.minus-along.ensures i)))) (fourth_is_some (place_at c.args.tet 0) (place_at c.args.tet 1) (place_at c.args.tet 2) (place_at c.args.tet 3) c.requires.positive)

pub returns : goal.returns
returns c = by_three (place_at c.args.tet 0) (place_at c.args.tet 1) (place_at c.args.tet 2) (place_at c.args.tet 3) _ _ _ c.by.result (c.cross.ensures.value ∙ (λ i. cross (c.minus-up.ensures i) (c.minus-across.ensures i))) (c.cross-2.ensures.value ∙ (λ i. cross (c.minus-along.ensures i) (c.minus-up.ensures i))) (c.cross-3.ensures.value ∙ (λ i. cross (c.minus-across.ensures i) (c.minus-along.ensures i))) c.by.ensures
