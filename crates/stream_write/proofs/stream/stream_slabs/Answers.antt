use Rattle.std.proofs.Common.{subst, sym}
use Rattle.slab_emit.specs.declared.Lines.{Lines}
use Rattle.slab_emit.specs.Sources.{CanPrint, SourceValue}
use Rattle.stream_write.specs.Streams.{lines_at}
use Rattle.stream_write.proofs.Printing.{can_print}
use Rattle.stream_write.proofs.stream.stream_slabs.Goals as goal

pub stream_lines-requires-clause-printable : goal.stream_lines-requires-clause-printable
stream_lines-requires-clause-printable g c κs within =
    subst (λ (l : Lines). CanPrint l c.source_of-source.result) (sym c.lines_of-lines.ensures)
    (subst (λ (s : SourceValue). CanPrint (lines_at c.args.frame c.args.numbering c.args.port) s) (sym c.source_of-source.ensures) (can_print c.args.frame c.args.numbering c.args.port c.args.survey.now c.requires.mesh_file c.requires.numbering c.requires.frame c.requires.sizes))
