use Rattle.std.proofs.Common.{map, arith}
use Rattle.definitions.specs.Values.{difference}
use Rattle.samples.proofs.Told.{words_more}
use Rattle.samples.proofs.sign_words.fill.Goals as goal

pub loop-q-preserved : goal.loop-q-preserved
loop-q-preserved c = words_more (map (difference c.args.level c.args.below) c.args.samples.now.numbers) c.loop-q.out c.loop-q.q c.words_from.result (let same = c.loop-q.auto.out in let t = c.loop-q-test.true in omega arith) c.loop-q.invariant c.words_from.ensures
