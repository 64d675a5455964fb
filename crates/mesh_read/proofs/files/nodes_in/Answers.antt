use Rattle.std.proofs.Common.{◌≡◌, ◌+◌, ℕ, ap, ◌∙◌, sym}
use Rattle.mesh_files.specs.Lines.{lines_from}
use Rattle.mesh_read.specs.TextLines.{line_of}
use Rattle.mesh_files.specs.Files.{nodes_from}
use Rattle.mesh_read.specs.Told.{items_in}
use Rattle.mesh_read.proofs.FileAnswers.{no_nodes, bad_nodes, read_nodes_lines, nodes_fault}
use Rattle.mesh_read.proofs.files.nodes_in.Goals as goal

pub returns-in_default : goal.returns-in_default
returns-in_default c = no_nodes c.args.text.now c.requires c.in_default.ensures.lines

pub returns-in_default-node_head : goal.returns-in_default-node_head
returns-in_default-node_head c = bad_nodes c.args.text.now (line_of c.in-Some.line) (lines_from c.in-Some.line.next c.in-Some.line.rest.now) c.requires c.in-Some.ensures.lines (sym c.in_default-node_head.ensures)

pub returns-in-Ok : goal.returns-in-Ok
returns-in-Ok c =
    read_nodes_lines c.args.text.now (line_of c.in-Some.line) (lines_from c.in-Some.line.next c.in-Some.line.rest.now) c.in-Some-node_head.head c.number_at_start-first.result c.requires c.in-Some.ensures.lines (sym c.in-Some-node_head.ensures) c.number_at_start-first.ensures.value
    ∙ ap (nodes_from c.number_at_start-first.result) c.in-Ok.ensures.says
    ∙ ap Rattle.std.proofs.Common.Ok (sym c.new.ensures)

pub returns-in-Err : goal.returns-in-Err
returns-in-Err c =
    nodes_fault items_in (λ n. n) c.in-Err.fault c.number_at_start-first.result _ _
    (read_nodes_lines c.args.text.now (line_of c.in-Some.line) (lines_from c.in-Some.line.next c.in-Some.line.rest.now) c.in-Some-node_head.head c.number_at_start-first.result c.requires c.in-Some.ensures.lines (sym c.in-Some-node_head.ensures) c.number_at_start-first.ensures.value)
    c.in-Err.ensures.says
