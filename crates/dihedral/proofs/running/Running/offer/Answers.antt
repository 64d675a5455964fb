use Rattle.std.proofs.Common.{ap, sym, subst, ◌∙◌}
use Rattle.std.specs.Prelude.{option_map}
use Rattle.dihedral.specs.Fractions.{extremes_in_lowest_terms}
use Rattle.dihedral.specs.Shapes.{Between}
use Rattle.dihedral.proofs.CoveredAngles.{more_covers, more_widens}
use Rattle.dihedral.proofs.RunningExtremes.{one_more, first_one}
use Rattle.dihedral.proofs.running.Running.offer.Goals as goal

pub returns-in-Some-clause-angle : goal.returns-in-Some-clause-angle
returns-in-Some-clause-angle c =
    λ xs h.
    one_more c.in-Some.found c.improve.new.found c.args.angle.now xs (c.self.invariant c.in-Some.found c.in-Some.is) c.requires c.improve.ensures.least c.improve.ensures.greatest
    (ap (option_map extremes_in_lowest_terms) (sym c.in-Some.is) ∙ c.self.view_is ∙ h)

pub returns-in-None-clause-angle : goal.returns-in-None-clause-angle
returns-in-None-clause-angle c = λ xs h. first_one c.args.angle.now xs (ap (option_map extremes_in_lowest_terms) (sym c.in-None.is) ∙ c.self.view_is ∙ h)

pub improve-requires-clause-found : goal.improve-requires-clause-found
improve-requires-clause-found c = c.self.invariant c.in-Some.found c.in-Some.is

pub returns-in-Some-clause-covers : goal.returns-in-Some-clause-covers
returns-in-Some-clause-covers c = more_covers c.in-Some.found c.improve.new.found c.args.angle.now (c.self.invariant c.in-Some.found c.in-Some.is) c.requires c.improve.ensures.least c.improve.ensures.greatest

pub returns-in-Some-clause-widens : goal.returns-in-Some-clause-widens
returns-in-Some-clause-widens c =
    λ x r b.
    more_widens c.in-Some.found c.improve.new.found c.args.angle.now (c.self.invariant c.in-Some.found c.in-Some.is) c.requires c.improve.ensures.least c.improve.ensures.greatest x r
    (subst (λ o. Between o x) (sym (ap (option_map extremes_in_lowest_terms) (sym c.in-Some.is) ∙ c.self.view_is)) b)
