use Rattle.std.proofs.Common.{subst, sym}
use Rattle.stencils.specs.Cases.{IsCase}
use Rattle.stencils.specs.declared.cases.Case.{Case}
use Rattle.stencils.proofs.PiecesOfCases.{entry_of}
use Rattle.stencils.proofs.case_of_signs.Goals as goal

pub returns : goal.returns
returns c =
    subst (λ (case : Case). IsCase c.args.is_turned c.args.signs case) (sym c.case_of.ensures) (entry_of c.args.signs c.row_of_signs.result.now c.row_of_signs.ensures c.args.is_turned)
