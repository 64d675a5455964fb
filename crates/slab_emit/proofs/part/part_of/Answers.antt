use Rattle.std.proofs.Common.{subst}
use Rattle.slab_emit.specs.declared.lines.Lines.{Lines}
use Rattle.slab_emit.specs.Sources.{CanPrint}
use Rattle.slab_emit.proofs.part.part_of.Goals as goal

pub node_text-requires-clause-printable : goal.node_text-requires-clause-printable
node_text-requires-clause-printable c = (subst (λ (l : Lines). CanPrint l c.args.source.now) c.in-Nodes.is c.requires.printable).1
