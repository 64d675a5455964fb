use Rattle.determinants.proofs.SignedProducts.{product_back}
use Rattle.determinants.proofs.vectors.times.Goals as goal

pub returns : goal.returns
returns c = product_back c.args.a c.args.b c.requires.a c.requires.b
