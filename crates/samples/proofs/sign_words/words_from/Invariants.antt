use Rattle.std.proofs.Common.{map}
use Rattle.definitions.specs.Values.{difference}
use Rattle.samples.specs.SignWords.{TellNumbers}
use Rattle.samples.proofs.sign_words.words_from.Given as goal

abbrev pub invariant-loop-n : goal.invariant-loop-n
invariant-loop-n l = TellNumbers (map (difference l.level l.below) l.samples.numbers) l.first l.words
