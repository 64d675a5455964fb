use Rattle.std.proofs.Common.{refl}
use Rattle.node_ele_write.proofs.TetLines.{front_of_none}
use Rattle.node_ele_write.proofs.front.Front.new.Goals as goal

pub invariant_of-result : goal.invariant_of-result
invariant_of-result c = front_of_none _ refl
