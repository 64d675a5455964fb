use Rattle.std.proofs.Common.{◌∙◌, arith}
use Rattle.std.proofs.lemmas.List.{length-set}
use Rattle.layer_cells.proofs.Copies.{copied}
use Rattle.layer_cells.proofs.cells.taken.Goals as goal

pub loop-k-preserved : goal.loop-k-preserved
loop-k-preserved c =
    let i = c.loop-k.invariant in
    (length-set c.loop-k.room.items c.loop-k.k c.word.result ∙ i.0, copied _ _ c.loop-k.k c.word.result (omega arith) c.word.ensures i.1)
