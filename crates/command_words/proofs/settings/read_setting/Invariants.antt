use Rattle.command_words.proofs.NamedWords.{IsUnnamed}
use Rattle.command_words.proofs.settings.read_setting.Given as goal

abbrev pub invariant-loop-name : goal.invariant-loop-name
invariant-loop-name l = IsUnnamed l.word l.name-index
