use Rattle.command_words.proofs.Decimals.{found_with_half, found_with_none}
use Rattle.command_words.proofs.numbers.halves.Goals as goal

pub returns-in-Some-clause-found : goal.returns-in-Some-clause-found
returns-in-Some-clause-found c = found_with_half _ _ _ c.in-Some.ensures.parts c.doubled.ensures.found

pub returns-in-Some-before_end-clause-found : goal.returns-in-Some-before_end-clause-found
returns-in-Some-before_end-clause-found c = found_with_none _ _ _ c.in-Some-before_end.ensures.parts c.doubled-in-Some-before_end.ensures.found
