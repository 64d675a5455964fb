use Rattle.std.proofs.Common.{◌∙◌, refl}
use Rattle.lattice_counts.proofs.Ranks.{even_layer, odd_layer}
use Rattle.bcc_lattice.proofs.vertices.layer_pair.Goals as goal

pub returns-clause-even : goal.returns-clause-even
returns-clause-even c = c.layer_len.ensures.product ∙ even_layer c.args.dims 0 refl

pub returns-clause-odd : goal.returns-clause-odd
returns-clause-odd c = c.layer_len-2.ensures.product ∙ odd_layer c.args.dims 1 refl
