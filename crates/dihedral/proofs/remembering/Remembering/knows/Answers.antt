use Rattle.dihedral.proofs.CoveredAngles.{stay_six}
use Rattle.dihedral.proofs.remembering.Remembering.knows.Goals as goal

pub returns : goal.returns
returns c = λ t near positive number nodes xs h. stay_six c.args.self.now c.args.tet number nodes xs (c.has.ensures t c.args.tet (c.new-shape.ensures near) positive) h
