use Rattle.std.proofs.Common.{◌∙◌, sym}
use Rattle.command_words.proofs.TextEnds.{back_of, unlike}
use Rattle.command_words.proofs.ends.before_end.Goals as goal

pub returns-else-eq-clause-found : goal.returns-else-eq-clause-found
returns-else-eq-clause-found c = λ front e.
    unlike c.split_at.result.1.now c.args.end.now (sym c.if-eq.ensures) (c.split_at.ensures.back ∙ back_of c.args.text.now front c.args.end.now e)
