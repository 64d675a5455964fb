use Rattle.std.proofs.Common.{◌<◌, subst, sym}
use Rattle.std.specs.Prelude.{IfOk}
use Rattle.definitions.specs.Layout.{slabs}
use Rattle.slab_emit.specs.declared.Lines.TheVariants.{Tets}
use Rattle.slab_emit.specs.Parts.{AreParts}
use Rattle.slab_emit.specs.Sources.{SourceValue}
use Rattle.slab_work.proofs.emission.emit_tets.Goals as goal

pub emit-requires-clause-first : goal.emit-requires-clause-first
emit-requires-clause-first g c κs within = subst (λ (s : SourceValue). c.args.first < slabs s.field.dims s.slab) (sym c.source_of-source.ensures) c.requires.first

pub returns-clause-parts : goal.returns-clause-parts
returns-clause-parts g c = subst (λ (s : SourceValue). IfOk c.emit.result (λ ps. AreParts (Tets c.args.numbering) s c.args.first ps.items)) c.source_of-source.ensures c.emit.ensures.parts
