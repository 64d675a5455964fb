use Rattle.std.proofs.Common.{arith}
use Rattle.std.proofs.lemmas.Nat.{le_or_l, le_or_r}
use Rattle.dihedral.proofs.fractions.compare_near.Goals as goal

pub by_bits-requires-clause-a : goal.by_bits-requires-clause-a
by_bits-requires-clause-a c = let h = le_or_l c.args.a c.args.b in let k = c.spare_bits-left.ensures.left in omega arith

pub by_bits-requires-clause-b : goal.by_bits-requires-clause-b
by_bits-requires-clause-b c = let h = le_or_r c.args.a c.args.b in let k = c.spare_bits-left.ensures.left in omega arith

pub by_bits-requires-clause-c : goal.by_bits-requires-clause-c
by_bits-requires-clause-c c = let h = le_or_l c.args.c c.args.d in let k = c.spare_bits-right.ensures.left in omega arith

pub by_bits-requires-clause-d : goal.by_bits-requires-clause-d
by_bits-requires-clause-d c = let h = le_or_r c.args.c c.args.d in let k = c.spare_bits-right.ensures.left in omega arith
