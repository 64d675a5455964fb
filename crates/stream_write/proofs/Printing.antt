-- What is written to a port can be printed.
use Rattle.std.proofs.Common.{◌≤◌, ℕ}
use Rattle.formats.specs.declared.Frame.{Frame}
use Rattle.formats.specs.Frames.{IsFrame}
use Rattle.formats.specs.declared.Port.{Port}
use Rattle.formats.specs.declared.Port.TheVariants.{Node, Ele}
use Rattle.slab_emit.specs.Sources.{CanPrint}
use Rattle.survey.specs.Surveys.{SurveyValue}
use Rattle.slab_work.specs.Surveyed.{AreKept, surveyed}
use Rattle.slab_work.proofs.Surveys.{mesh_printable}
use Rattle.stream_write.specs.Streams.{IsMeshFile, lines_at}

pub can_print : (frame : Frame) (first : ℕ) (port : Port) (v : SurveyValue) → IsMeshFile port → first ≤ 1 → IsFrame frame → AreKept frame.step v.subject.field.dims → CanPrint (lines_at frame first port) (surveyed v)
can_print frame first Node v is low fits kept = (low, mesh_printable frame v.subject.field v.subject.shares fits kept)
can_print frame first Ele v is low fits kept = low
can_print frame first port v is low fits kept = absurd is
