use Rattle.command_words.specs.Commands.{AreNames}
use Rattle.command_words.proofs.read.bad_name.Given as goal

abbrev pub invariant-loop-i : goal.invariant-loop-i
invariant-loop-i l = AreNames l.words l.i
