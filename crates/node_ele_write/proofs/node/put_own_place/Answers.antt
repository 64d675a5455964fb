use Rattle.node_ele_write.proofs.WorldValues.{first_axis, second_axis}
use Rattle.node_ele_write.proofs.node.put_own_place.Goals as goal

pub put_own-requires-2-clause-axis : goal.put_own-requires-2-clause-axis
put_own-requires-2-clause-axis c = second_axis c.args.axes.now _ c.requires.axes

pub put_own-requires-3-clause-axis : goal.put_own-requires-3-clause-axis
put_own-requires-3-clause-axis c = first_axis c.args.axes.now _ c.requires.axes
