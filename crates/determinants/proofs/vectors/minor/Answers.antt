use Rattle.std.proofs.Common.{arith}
use Rattle.std.proofs.lemmas.Int.{ints}
use Rattle.determinants.proofs.SignedProducts.{edge_product}
use Rattle.determinants.proofs.vectors.minor.Goals as goal

pub overflow_sub-result : goal.overflow_sub-result
overflow_sub-result c = let p = edge_product _ c.args.a c.args.d c.requires.a c.requires.d c.times.ensures in let q = edge_product _ c.args.b c.args.c c.requires.b c.requires.c c.times-2.ensures in omega (arith, ints)

pub returns-clause-value : goal.returns-clause-value
returns-clause-value c = let p = edge_product _ c.args.a c.args.d c.requires.a c.requires.d c.times.ensures in let q = edge_product _ c.args.b c.args.c c.requires.b c.requires.c c.times-2.ensures in omega (arith, ints)

pub returns-clause-small : goal.returns-clause-small
returns-clause-small c = let p = edge_product _ c.args.a c.args.d c.requires.a c.requires.d c.times.ensures in let q = edge_product _ c.args.b c.args.c c.requires.b c.requires.c c.times-2.ensures in omega (arith, ints)
