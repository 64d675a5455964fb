use Rattle.std.proofs.Common.{◌≡◌, ◌+◌, ℕ, length, ap, ◌∙◌, sym}
use Rattle.mesh_files.specs.Lines.{lines_from}
use Rattle.mesh_read.specs.TextLines.{line_of}
use Rattle.mesh_files.specs.Files.{items_or_fault}
use Rattle.mesh_files.specs.Forms.{tet_line}
use Rattle.mesh_read.specs.Told.{items_in}
use Rattle.mesh_read.proofs.FileAnswers.{no_tets, bad_tets, read_tets_lines, tets_fault}
use Rattle.mesh_read.proofs.files.tets_in.Goals as goal

pub returns-in_default-clause-says : goal.returns-in_default-clause-says
returns-in_default-clause-says c = no_tets c.args.nodes.now c.args.text.now c.requires c.in_default.ensures.lines

pub returns-in_default-tet_head-clause-says : goal.returns-in_default-tet_head-clause-says
returns-in_default-tet_head-clause-says c = bad_tets c.args.nodes.now c.args.text.now (line_of c.in-Some.line) (lines_from c.in-Some.line.next c.in-Some.line.rest.now) c.requires c.in-Some.ensures.lines (sym c.in_default-tet_head.ensures)

pub new-requires : goal.new-requires
new-requires c = record { few = c.in-Ok.ensures.few; four = c.in-Ok.ensures.four }

pub returns-in-Ok-clause-says : goal.returns-in-Ok-clause-says
returns-in-Ok-clause-says c =
    read_tets_lines c.args.nodes.now c.args.text.now (line_of c.in-Some.line) (lines_from c.in-Some.line.next c.in-Some.line.rest.now) c.in-Some-tet_head.head c.requires c.in-Some.ensures.lines (sym c.in-Some-tet_head.ensures)
    ∙ (λ k. items_or_fault (λ i. tet_line (sym c.first-first.ensures.value k) (length (sym c.places.ensures.value k)) c.in-Some-tet_head.head.extra (sym c.first-first.ensures.value k + i)) c.in-Some-tet_head.head.count (lines_from c.in-Some.line.next c.in-Some.line.rest.now))
    ∙ c.in-Ok.ensures.says
    ∙ ap Rattle.std.proofs.Common.Ok (sym c.new.ensures)

pub returns-in-Err-clause-says : goal.returns-in-Err-clause-says
returns-in-Err-clause-says c =
    tets_fault items_in (λ t. t) c.in-Err.fault _ _
    (read_tets_lines c.args.nodes.now c.args.text.now (line_of c.in-Some.line) (lines_from c.in-Some.line.next c.in-Some.line.rest.now) c.in-Some-tet_head.head c.requires c.in-Some.ensures.lines (sym c.in-Some-tet_head.ensures)
    ∙ (λ k. items_or_fault (λ i. tet_line (sym c.first-first.ensures.value k) (length (sym c.places.ensures.value k)) c.in-Some-tet_head.head.extra (sym c.first-first.ensures.value k + i)) c.in-Some-tet_head.head.count (lines_from c.in-Some.line.next c.in-Some.line.rest.now)))
    c.in-Err.ensures.says
