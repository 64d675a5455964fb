use Rattle.std.proofs.Common.{ℕ}
use Rattle.std.specs.Prelude.{bit_and}
use Rattle.definitions.specs.declared.Sign.{Sign}
use Rattle.definitions.specs.declared.Sign.TheVariants.{Minus, Zero, Plus}
use Rattle.samples.specs.declared.sign_words.SignWords.{SignWords}
use Rattle.samples.specs.SignWords.{IsTold}
use Rattle.samples.proofs.SetBits.{in_both}
use Rattle.samples.proofs.sign_words.SignWords.and.Goals as goal

both : (a b : SignWords) (s : Sign) (i : ℕ) → IsTold (record { plus = bit_and a.plus b.plus; zero = bit_and a.zero b.zero; minus = bit_and a.minus b.minus }) s i → IsTold a s i × IsTold b s i
both a b Plus i h = in_both a.plus b.plus i h
both a b Zero i h = in_both a.zero b.zero i h
both a b Minus i h = in_both a.minus b.minus i h

pub returns-clause-own : goal.returns-clause-own
returns-clause-own c s i h = (both c.args.self c.args.other s i h).0

pub returns-clause-other : goal.returns-clause-other
returns-clause-other c s i h = (both c.args.self c.args.other s i h).1
