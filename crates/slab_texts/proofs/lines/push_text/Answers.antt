use Rattle.std.proofs.Common.{arith}
use Rattle.slab_texts.proofs.lines.push_text.Goals as goal

pub ele_lines-requires-clause-nodes : goal.ele_lines-requires-clause-nodes
ele_lines-requires-clause-nodes c = λ k d lt i z short. let small = c.requires.small k d lt i z short in omega arith
