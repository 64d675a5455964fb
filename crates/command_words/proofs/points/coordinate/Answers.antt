use Rattle.std.proofs.Common.{◌∙◌}
use Rattle.command_words.proofs.Commas.{coordinate_below}
use Rattle.command_words.proofs.points.coordinate.Goals as goal

pub returns-in-Some-clause-found : goal.returns-in-Some-clause-found
returns-in-Some-clause-found c = λ value h. c.below_zero.ensures ∙ coordinate_below c.args.text.now c.in-Some.rest.now c.size.result c.in-Some.ensures.parts c.size.ensures.found value h
