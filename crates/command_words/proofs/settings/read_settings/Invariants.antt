use Rattle.std.proofs.Common.{◌-◌, take, drop}
use Rattle.command_words.specs.Settings.{IsTaken}
use Rattle.command_words.proofs.settings.read_settings.Given as goal

abbrev pub invariant-loop-i : goal.invariant-loop-i
invariant-loop-i l = IsTaken l.verb (take (l.i - l.start) (drop l.start l.words)) l.seen
