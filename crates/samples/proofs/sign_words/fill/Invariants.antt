use Rattle.std.proofs.Common.{ℕ, ◌*◌, ◌<◌, get_or, map}
use Rattle.definitions.specs.Values.{difference}
use Rattle.samples.specs.SignWords.{TellNumbers, none_told}
use Rattle.samples.proofs.sign_words.fill.Given as goal

abbrev pub invariant-loop-q : goal.invariant-loop-q
invariant-loop-q l = (p : ℕ) → p < l.q → TellNumbers (map (difference l.level l.below) l.samples.numbers) (64 * p) (get_or l.out p none_told)
