use Rattle.moved_matrix.proofs.Steps.{step_contracts}
use Rattle.moved_matrix.proofs.contract_step.Goals as goal

pub returns : goal.returns
returns c = step_contracts c.args.tet.now.at c.args.tet.now.ids c.args.states c.args.from c.args.to c.requires.tet c.requires.near c.requires.sums
