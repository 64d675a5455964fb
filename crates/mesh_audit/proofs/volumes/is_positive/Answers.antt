use Rattle.std.proofs.Common.{rules, ◌≡◌, length, ap, sym, ◌∙◌}
use Rattle.definitions.specs.Vectors.{det_of, minus}
use Rattle.mesh_files.specs.Verdicts.{is_above_zero, is_positive}
use Rattle.mesh_audit.proofs.CornerPlaces.{det_by_corners}
use Rattle.mesh_audit.proofs.WideNumbers.{back_128}
use Rattle.mesh_audit.proofs.volumes.is_positive.Goals as goal

pub returns : goal.returns
unfolding is_positive
returns c =
    let four : length c.args.tet ≡ 4 = search rules in
    let from = c.place-from.ensures.value in
    let b = c.place.ensures.value in
    let d = c.place-2.ensures.value in
    let e = c.place-3.ensures.value in
    c.is_above.ensures
    ∙ ap is_above_zero
    (back_128 c.determinant.result c.determinant.ensures.small
    ∙ c.determinant.ensures.value
    ∙ (λ i. det_of (c.minus.ensures.value i) (c.minus-2.ensures.value i) (c.minus-3.ensures.value i))
    ∙ (λ i. det_of (minus (b i) (from i)) (minus (d i) (from i)) (minus (e i) (from i)))
    ∙ sym (det_by_corners c.args.places.now c.args.tet four))
