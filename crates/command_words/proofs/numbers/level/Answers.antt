use Rattle.std.proofs.Common.{◌∙◌}
use Rattle.command_words.proofs.Decimals.{level_below, level_above, level_below_is, level_above_is}
use Rattle.command_words.proofs.numbers.level.Goals as goal

pub returns-in-Some-clause-text : goal.returns-in-Some-clause-text
returns-in-Some-clause-text c = rw c.below_zero.ensures (level_below_is c.args.text.now c.in-Some.size.now c.halves.result c.in-Some.ensures.parts c.halves.ensures.text)

pub returns-in-Some-clause-found : goal.returns-in-Some-clause-found
returns-in-Some-clause-found c = λ twice h. c.below_zero.ensures ∙ level_below c.args.text.now c.in-Some.size.now c.halves.result c.in-Some.ensures.parts c.halves.ensures.found twice h

pub returns-in-None-clause-text : goal.returns-in-None-clause-text
returns-in-None-clause-text c = rw c.above_zero.ensures (level_above_is c.args.text.now c.halves-in-None.result c.halves-in-None.ensures.text)

pub returns-in-None-clause-found : goal.returns-in-None-clause-found
returns-in-None-clause-found c = λ twice h.
    c.above_zero.ensures ∙ level_above c.args.text.now c.halves-in-None.result (λ rest e. let n = c.in-None.ensures.found rest e in cc) c.halves-in-None.ensures.found twice h
