use Rattle.std.proofs.Common.{sym, ◌∙◌, []}
use Rattle.dihedral.proofs.AnglesAreFractions.{six_are_angles}
use Rattle.dihedral.proofs.ExtremesOfLists.{extremes_of_none}
use Rattle.dihedral.proofs.SixAngles.{six_are_some}
use Rattle.dihedral.proofs.extremes.extremes_of.Goals as goal

pub unreachable-requires : goal.unreachable-requires
unreachable-requires c = six_are_some c.args.tet c.args.number c.args.nodes (sym c.in-None.is ∙ c.found.ensures.value ∙ c.take.ensures.angles [] (c.new-running.ensures ∙ extremes_of_none))

pub returns-clause-value : goal.returns-clause-value
returns-clause-value c = sym c.in-Some.is ∙ c.found.ensures.value ∙ c.take.ensures.angles [] (c.new-running.ensures ∙ extremes_of_none)

pub returns-clause-fractions : goal.returns-clause-fractions
returns-clause-fractions c = c.found.ensures.fractions c.in-Some.extremes c.in-Some.is

pub returns-clause-angles : goal.returns-clause-angles
returns-clause-angles c = six_are_angles c.args.tet c.requires.positive c.args.number c.args.nodes
