use Rattle.face_neigh.proofs.Groups.{element_more}
use Rattle.face_neigh.proofs.gather.spread.Goals as goal

pub loop-number-preserved : goal.loop-number-preserved
loop-number-preserved c = element_more _ _ _ _ _ _ c.loop-number-test.true c.loop-number.invariant c.in_ok-put.ensures
