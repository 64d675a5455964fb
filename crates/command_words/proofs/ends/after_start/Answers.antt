use Rattle.std.proofs.Common.{◌∙◌, sym}
use Rattle.command_words.proofs.TextEnds.{start_of, unlike}
use Rattle.command_words.proofs.ends.after_start.Goals as goal

pub returns-else-eq-clause-found : goal.returns-else-eq-clause-found
returns-else-eq-clause-found c = λ rest e.
    unlike c.split_at.result.0.now c.args.start.now (sym c.if-eq.ensures) (c.split_at.ensures.front ∙ start_of c.args.text.now c.args.start.now rest e)
