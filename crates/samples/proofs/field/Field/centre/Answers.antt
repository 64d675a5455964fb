use Rattle.std.proofs.Common.{rules, ◌≡◌, ◌*◌, ◌+◌, sym, ◌∙◌, arith, w64, to_z, of_z}
use Rattle.std.proofs.lemmas.Int.{ints}
use Rattle.definitions.specs.Lattice.{vertex}
use Rattle.definitions.specs.Values.{value}
use Rattle.samples.specs.Corners.{half_units}
use Rattle.samples.proofs.ValuesAt.{centre_value}
use Rattle.samples.proofs.field.Field.centre.Goals as goal

pub returns-clause-value : goal.returns-clause-value
returns-clause-value c =
    let f = c.args.self.now in
    let kept : to_z w64 (of_z w64 c.cube.result) ≡ c.cube.result = omega (arith, ints) in
    let x : half_units 3 c.args.i ≡ 2 * c.from_padding.result + 1 = search rules in
    let y : half_units 3 c.args.j ≡ 2 * c.from_padding-2.result + 1 = search rules in
    let z : half_units 3 c.args.k ≡ 2 * c.from_padding-3.result + 1 = search rules in
    kept
    ∙ c.cube.ensures.value
    ∙ sym (centre_value f c.from_padding.result c.from_padding-2.result c.from_padding-3.result)
    ∙ (λ t. value f (vertex (sym z t) (sym y t) (sym x t)))
