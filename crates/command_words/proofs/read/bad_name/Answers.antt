use Rattle.std.proofs.Common.{refl, sym, arith}
use Rattle.command_words.proofs.read.bad_name.Goals as goal

pub returns-then-not-is_name-clause-bad : goal.returns-then-not-is_name-clause-bad
returns-then-not-is_name-clause-bad c = record {
  names = c.loop-i.i;
  place_is = refl;
  within = omega arith;
  before = c.loop-i.invariant;
  bad = sym c.if-not-is_name.ensures;
}
