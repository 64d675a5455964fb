use Rattle.std.proofs.Common.{◌∙◌, map, w64, to_z, of_z, arith}
use Rattle.std.proofs.lemmas.Int.{to_z-of_z, fits_signed_from_abs}
use Rattle.definitions.specs.Values.{difference}
use Rattle.samples.proofs.Told.{told_more}
use Rattle.samples.proofs.sign_words.words_from.Goals as goal

pub loop-n-preserved : goal.loop-n-preserved
loop-n-preserved c =
    let d = c.difference_at.result in
    let small = c.difference_at.ensures.small in
    told_more (map (difference c.args.level c.args.below) c.args.samples.now.numbers) c.args.first c.loop-n.n c.loop-n.words c.with-words.result (to_z w64 (of_z w64 d)) c.loop-n.invariant (omega arith)
    (to_z-of_z w64 d (fits_signed_from_abs w64 d (omega arith)) ∙ c.difference_at.ensures.value) c.with-words.ensures
