use Rattle.std.proofs.Common.{◌∙◌, sym, ap, arith, List, ℕ, ◌++◌}
use Rattle.command_words.proofs.NamedWords.{unnamed_more, name_below}
use Rattle.command_words.proofs.settings.read_setting.Goals as goal

pub loop-name-init : goal.loop-name-init
loop-name-init c = λ n lt text e. absurd (omega arith)

pub loop-name-preserved : goal.loop-name-preserved
loop-name-preserved c =
    unnamed_more c.args.word.now c.loop-name.name-index _ c.loop-name.invariant
    (λ text e. let t = c.in_default.ensures.found text (e ∙ ap (λ (u : List ℕ). u ++ text) (sym c.name_text.ensures)) in cc)

pub returns-clause-found : goal.returns-clause-found
returns-clause-found c = λ s r. absurd (c.loop-name.invariant s.name (omega (arith, name_below s.name)) r.text r.word_is)
