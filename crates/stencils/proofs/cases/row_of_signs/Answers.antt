use Rattle.std.proofs.Common.{◌≡◌, ℕ, length, rules, subst, sym}
use Rattle.stencils.specs.Cases.{FitsCase}
use Rattle.stencils.proofs.Table.{row_at, row_fits}
use Rattle.stencils.proofs.cases.row_of_signs.Goals as goal

pub returns : goal.returns
returns c =
    let len : length c.args.signs ≡ 4 = search rules in
    subst (λ (n : ℕ). FitsCase c.args.signs (row_at n)) (sym c.place_of_signs.ensures.value) (row_fits c.args.signs len)
