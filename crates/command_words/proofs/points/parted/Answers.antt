use Rattle.std.proofs.Common.{◌∙◌, sym}
use Rattle.command_words.proofs.Commas.{comma_there, none_before, no_comma_in}
use Rattle.command_words.proofs.points.parted.Goals as goal

pub returns-in_err-n-clause-none : goal.returns-in_err-n-clause-none
returns-in_err-n-clause-none c = rw c.from_residual.ensures (λ front rest e. no_comma_in c.args.text.now front rest (sym c.comma.ensures ∙ c.in_err-n.was) e)

pub returns-clause-parts : goal.returns-clause-parts
returns-clause-parts c = comma_there c.args.text.now c.in_ok-n.n (sym c.comma.ensures ∙ c.in_ok-n.was)

pub returns-clause-first : goal.returns-clause-first
returns-clause-first c = none_before c.args.text.now c.in_ok-n.n (sym c.comma.ensures ∙ c.in_ok-n.was)
