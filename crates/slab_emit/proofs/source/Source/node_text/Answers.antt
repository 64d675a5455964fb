use Rattle.std.proofs.Common.{All, subst, sym}
use Rattle.node_ele_write.specs.Printable.{IsPrintable}
use Rattle.mesh_lists.specs.Parts.{mesh_of}
use Rattle.slab_emit.specs.Sources.{SourceValue}
use Rattle.slab_emit.proofs.source.Source.node_text.Goals as goal

pub node_text-requires-clause-printable : goal.node_text-requires-clause-printable
node_text-requires-clause-printable c = subst (λ (s : SourceValue). All (IsPrintable c.args.frame.now) (mesh_of s.field s.states).places) (sym c.self.view_is) c.requires.printable
