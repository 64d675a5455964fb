use Rattle.std.proofs.Common.{rules, ◌≡◌, ◌*◌, ap, sym, ◌∙◌, arith, w64, to_z, of_z}
use Rattle.std.proofs.Math.IntN.{pos, ◌*ℤ◌}
use Rattle.std.proofs.lemmas.Int.{ints}
use Rattle.definitions.specs.Lattice.{vertex}
use Rattle.definitions.specs.Values.{value}
use Rattle.samples.specs.Corners.{half_units}
use Rattle.samples.proofs.ValuesAt.{corner_value}
use Rattle.samples.proofs.field.Field.corner.Goals as goal

pub returns-clause-value : goal.returns-clause-value
returns-clause-value c =
    let f = c.args.self.now in
    let kept : to_z w64 (of_z w64 (pos 8 *ℤ to_z w64 (of_z w64 c.difference.result))) ≡ pos 8 *ℤ c.difference.result = omega (arith, ints) in
    let x : half_units 2 c.args.i ≡ 2 * c.from_padding.result = search rules in
    let y : half_units 2 c.args.j ≡ 2 * c.from_padding-2.result = search rules in
    let z : half_units 2 c.args.k ≡ 2 * c.from_padding-3.result = search rules in
    kept
    ∙ ap (λ d. pos 8 *ℤ d) c.difference.ensures.value
    ∙ sym (corner_value f c.from_padding.result c.from_padding-2.result c.from_padding-3.result)
    ∙ (λ t. value f (vertex (sym z t) (sym y t) (sym x t)))
