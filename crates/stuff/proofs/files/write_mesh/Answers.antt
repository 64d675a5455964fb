use Rattle.std.proofs.Common.{length, refl, sym, ◌∙◌, arith}
use Rattle.formats.specs.declared.Port.TheVariants.{Node, Ele, Report, Face, Neigh}
use Rattle.definitions.specs.Mesh.{mesh}
use Rattle.stuff.specs.Outputs.{mesh_name, mesh_text}
use Rattle.stuff.specs.Ports.{mesh_files}
use Rattle.stuff.specs.Writing.{IsThis}
use Rattle.stuff.proofs.FilesInTurn.{ele_among, face_among, last_turn, neigh_among, node_among}
use Rattle.stuff.proofs.Reports.{report_by}
use Rattle.stuff.proofs.Trying.{all_along}
use Rattle.stuff.proofs.Writings.{no_report, not_written, one_written, reported, still_open}
use Rattle.stuff.proofs.files.write_mesh.Goals as goal

-- ---- what each step asks

pub write_nodes-requires-clause-is_open : goal.write_nodes-requires-clause-is_open
write_nodes-requires-clause-is_open g c κs within =
    let text = mesh_text c.args.frame c.args.numbering c.args.survey.now.subject.field c.args.survey.now.subject.shares in
    let opened = c.in-Ok.ensures.reaches text in
    still_open g.D.Desk.ports (mesh_files c.args.faces) (mesh_name c.args.output.now) (IsThis text) c.args.desk.now 0 Node c.open_files.new.desk tt (node_among c.args.faces) (omega arith) opened

pub write_nodes-requires-clause-faults : goal.write_nodes-requires-clause-faults
write_nodes-requires-clause-faults g c κs within =
    let opened = c.in-Ok.ensures.reaches (mesh_text c.args.frame c.args.numbering c.args.survey.now.subject.field c.args.survey.now.subject.shares) in
    opened.none Node (λ e. cc)

pub write_tets-requires-clause-is_open : goal.write_tets-requires-clause-is_open
write_tets-requires-clause-is_open g c κs within =
    let text = mesh_text c.args.frame c.args.numbering c.args.survey.now.subject.field c.args.survey.now.subject.shares in
    let opened = c.in-Ok.ensures.reaches text in
    let nodes = one_written g.D.Desk.ports (mesh_files c.args.faces) (mesh_name c.args.output.now) (IsThis text) c.args.desk.now Node (text Node) tt (node_among c.args.faces) (λ t e. e) c.open_files.new.desk c.write_nodes.new.desk c.in-Ok-write_nodes.ensures.apart.others opened c.in-Ok-write_nodes.ensures.puts in
    still_open g.D.Desk.ports (mesh_files c.args.faces) (mesh_name c.args.output.now) (IsThis text) c.args.desk.now 1 Ele c.write_nodes.new.desk tt (ele_among c.args.faces) (omega arith) nodes

pub write_tets-requires-clause-faults : goal.write_tets-requires-clause-faults
write_tets-requires-clause-faults g c κs within =
    let text = mesh_text c.args.frame c.args.numbering c.args.survey.now.subject.field c.args.survey.now.subject.shares in
    let opened = c.in-Ok.ensures.reaches text in
    let nodes = one_written g.D.Desk.ports (mesh_files c.args.faces) (mesh_name c.args.output.now) (IsThis text) c.args.desk.now Node (text Node) tt (node_among c.args.faces) (λ t e. e) c.open_files.new.desk c.write_nodes.new.desk c.in-Ok-write_nodes.ensures.apart.others opened c.in-Ok-write_nodes.ensures.puts in
    nodes.none Ele (λ e. cc)

pub write_adjacency-requires-clause-face : goal.write_adjacency-requires-clause-face
write_adjacency-requires-clause-face g c = λ asked.
    let text = mesh_text c.args.frame c.args.numbering c.args.survey.now.subject.field c.args.survey.now.subject.shares in
    let opened = c.in-Ok.ensures.reaches text in
    let nodes = one_written g.D.Desk.ports (mesh_files c.args.faces) (mesh_name c.args.output.now) (IsThis text) c.args.desk.now Node (text Node) tt (node_among c.args.faces) (λ t e. e) c.open_files.new.desk c.write_nodes.new.desk c.in-Ok-write_nodes.ensures.apart.others opened c.in-Ok-write_nodes.ensures.puts in
    let tets = one_written g.D.Desk.ports (mesh_files c.args.faces) (mesh_name c.args.output.now) (IsThis text) c.args.desk.now Ele (text Ele) tt (ele_among c.args.faces) (λ t e. e) c.write_nodes.new.desk c.write_tets.new.desk c.in-Ok-write_tets.ensures.apart.others nodes c.in-Ok-write_tets.ensures.puts in
    still_open g.D.Desk.ports (mesh_files c.args.faces) (mesh_name c.args.output.now) (IsThis text) c.args.desk.now 2 Face c.write_tets.new.desk tt (face_among c.args.faces asked) (omega arith) tets

pub write_adjacency-requires-clause-neigh : goal.write_adjacency-requires-clause-neigh
write_adjacency-requires-clause-neigh g c = λ asked.
    let text = mesh_text c.args.frame c.args.numbering c.args.survey.now.subject.field c.args.survey.now.subject.shares in
    let opened = c.in-Ok.ensures.reaches text in
    let nodes = one_written g.D.Desk.ports (mesh_files c.args.faces) (mesh_name c.args.output.now) (IsThis text) c.args.desk.now Node (text Node) tt (node_among c.args.faces) (λ t e. e) c.open_files.new.desk c.write_nodes.new.desk c.in-Ok-write_nodes.ensures.apart.others opened c.in-Ok-write_nodes.ensures.puts in
    let tets = one_written g.D.Desk.ports (mesh_files c.args.faces) (mesh_name c.args.output.now) (IsThis text) c.args.desk.now Ele (text Ele) tt (ele_among c.args.faces) (λ t e. e) c.write_nodes.new.desk c.write_tets.new.desk c.in-Ok-write_tets.ensures.apart.others nodes c.in-Ok-write_tets.ensures.puts in
    still_open g.D.Desk.ports (mesh_files c.args.faces) (mesh_name c.args.output.now) (IsThis text) c.args.desk.now 2 Neigh c.write_tets.new.desk tt (neigh_among c.args.faces asked) (omega arith) tets

pub write_adjacency-requires-clause-faults : goal.write_adjacency-requires-clause-faults
write_adjacency-requires-clause-faults g c =
    let text = mesh_text c.args.frame c.args.numbering c.args.survey.now.subject.field c.args.survey.now.subject.shares in
    let opened = c.in-Ok.ensures.reaches text in
    let nodes = one_written g.D.Desk.ports (mesh_files c.args.faces) (mesh_name c.args.output.now) (IsThis text) c.args.desk.now Node (text Node) tt (node_among c.args.faces) (λ t e. e) c.open_files.new.desk c.write_nodes.new.desk c.in-Ok-write_nodes.ensures.apart.others opened c.in-Ok-write_nodes.ensures.puts in
    let tets = one_written g.D.Desk.ports (mesh_files c.args.faces) (mesh_name c.args.output.now) (IsThis text) c.args.desk.now Ele (text Ele) tt (ele_among c.args.faces) (λ t e. e) c.write_nodes.new.desk c.write_tets.new.desk c.in-Ok-write_tets.ensures.apart.others nodes c.in-Ok-write_tets.ensures.puts in
    tets.none

pub write_report-requires-clause-faults : goal.write_report-requires-clause-faults
write_report-requires-clause-faults g c =
    let text = mesh_text c.args.frame c.args.numbering c.args.survey.now.subject.field c.args.survey.now.subject.shares in
    let opened = c.in-Ok.ensures.reaches text in
    let nodes = one_written g.D.Desk.ports (mesh_files c.args.faces) (mesh_name c.args.output.now) (IsThis text) c.args.desk.now Node (text Node) tt (node_among c.args.faces) (λ t e. e) c.open_files.new.desk c.write_nodes.new.desk c.in-Ok-write_nodes.ensures.apart.others opened c.in-Ok-write_nodes.ensures.puts in
    let tets = one_written g.D.Desk.ports (mesh_files c.args.faces) (mesh_name c.args.output.now) (IsThis text) c.args.desk.now Ele (text Ele) tt (ele_among c.args.faces) (λ t e. e) c.write_nodes.new.desk c.write_tets.new.desk c.in-Ok-write_tets.ensures.apart.others nodes c.in-Ok-write_tets.ensures.puts in
    let all = c.in-Ok-write_adjacency.ensures.continues (mesh_name c.args.output.now) text refl refl c.args.desk.now tets in
    all.none Report (λ e. cc)

-- ---- how it ends

pub returns-in-Err-clause-ends : goal.returns-in-Err-clause-ends
returns-in-Err-clause-ends g c = c.in-Err.ensures.reaches (mesh_text c.args.frame c.args.numbering c.args.survey.now.subject.field c.args.survey.now.subject.shares)

pub returns-in-Err-write_nodes-clause-ends : goal.returns-in-Err-write_nodes-clause-ends
returns-in-Err-write_nodes-clause-ends g c =
    let text = mesh_text c.args.frame c.args.numbering c.args.survey.now.subject.field c.args.survey.now.subject.shares in
    let opened = c.in-Ok.ensures.reaches text in
    not_written g.D.Desk.ports (mesh_files c.args.faces) (mesh_name c.args.output.now) (IsThis text) c.args.desk.now Node (text Node) tt (node_among c.args.faces) (λ t e. e) c.open_files.new.desk c.write_nodes.new.desk c.in-Err-write_nodes.ensures.apart.others opened c.in-Err-write_nodes.status c.in-Err-write_nodes.ensures.puts

pub returns-in-Err-write_tets-clause-ends : goal.returns-in-Err-write_tets-clause-ends
returns-in-Err-write_tets-clause-ends g c =
    let text = mesh_text c.args.frame c.args.numbering c.args.survey.now.subject.field c.args.survey.now.subject.shares in
    let opened = c.in-Ok.ensures.reaches text in
    let nodes = one_written g.D.Desk.ports (mesh_files c.args.faces) (mesh_name c.args.output.now) (IsThis text) c.args.desk.now Node (text Node) tt (node_among c.args.faces) (λ t e. e) c.open_files.new.desk c.write_nodes.new.desk c.in-Ok-write_nodes.ensures.apart.others opened c.in-Ok-write_nodes.ensures.puts in
    not_written g.D.Desk.ports (mesh_files c.args.faces) (mesh_name c.args.output.now) (IsThis text) c.args.desk.now Ele (text Ele) tt (ele_among c.args.faces) (λ t e. e) c.write_nodes.new.desk c.write_tets.new.desk c.in-Err-write_tets.ensures.apart.others nodes c.in-Err-write_tets.status c.in-Err-write_tets.ensures.puts

pub returns-in-Err-write_adjacency-clause-ends : goal.returns-in-Err-write_adjacency-clause-ends
returns-in-Err-write_adjacency-clause-ends g c =
    let text = mesh_text c.args.frame c.args.numbering c.args.survey.now.subject.field c.args.survey.now.subject.shares in
    let opened = c.in-Ok.ensures.reaches text in
    let nodes = one_written g.D.Desk.ports (mesh_files c.args.faces) (mesh_name c.args.output.now) (IsThis text) c.args.desk.now Node (text Node) tt (node_among c.args.faces) (λ t e. e) c.open_files.new.desk c.write_nodes.new.desk c.in-Ok-write_nodes.ensures.apart.others opened c.in-Ok-write_nodes.ensures.puts in
    let tets = one_written g.D.Desk.ports (mesh_files c.args.faces) (mesh_name c.args.output.now) (IsThis text) c.args.desk.now Ele (text Ele) tt (ele_among c.args.faces) (λ t e. e) c.write_nodes.new.desk c.write_tets.new.desk c.in-Ok-write_tets.ensures.apart.others nodes c.in-Ok-write_tets.ensures.puts in
    c.in-Err-write_adjacency.ensures.continues (mesh_name c.args.output.now) text refl refl c.args.desk.now tets

pub returns-in-Err-report_text-clause-ends : goal.returns-in-Err-report_text-clause-ends
returns-in-Err-report_text-clause-ends g c =
    let text = mesh_text c.args.frame c.args.numbering c.args.survey.now.subject.field c.args.survey.now.subject.shares in
    let opened = c.in-Ok.ensures.reaches text in
    let nodes = one_written g.D.Desk.ports (mesh_files c.args.faces) (mesh_name c.args.output.now) (IsThis text) c.args.desk.now Node (text Node) tt (node_among c.args.faces) (λ t e. e) c.open_files.new.desk c.write_nodes.new.desk c.in-Ok-write_nodes.ensures.apart.others opened c.in-Ok-write_nodes.ensures.puts in
    let tets = one_written g.D.Desk.ports (mesh_files c.args.faces) (mesh_name c.args.output.now) (IsThis text) c.args.desk.now Ele (text Ele) tt (ele_among c.args.faces) (λ t e. e) c.write_nodes.new.desk c.write_tets.new.desk c.in-Ok-write_tets.ensures.apart.others nodes c.in-Ok-write_tets.ensures.puts in
    let all = c.in-Ok-write_adjacency.ensures.continues (mesh_name c.args.output.now) text refl refl c.args.desk.now tets in
    no_report g.D.Desk.ports (mesh_files c.args.faces) (mesh_name c.args.output.now) (IsThis text) c.args.desk.now (length (mesh_files c.args.faces)) c.write_adjacency.new.desk (last_turn c.args.faces) all Node (node_among c.args.faces)

pub returns-in-Ok-report_text-clause-ends : goal.returns-in-Ok-report_text-clause-ends
returns-in-Ok-report_text-clause-ends g c =
    let text = mesh_text c.args.frame c.args.numbering c.args.survey.now.subject.field c.args.survey.now.subject.shares in
    let opened = c.in-Ok.ensures.reaches text in
    let nodes = one_written g.D.Desk.ports (mesh_files c.args.faces) (mesh_name c.args.output.now) (IsThis text) c.args.desk.now Node (text Node) tt (node_among c.args.faces) (λ t e. e) c.open_files.new.desk c.write_nodes.new.desk c.in-Ok-write_nodes.ensures.apart.others opened c.in-Ok-write_nodes.ensures.puts in
    let tets = one_written g.D.Desk.ports (mesh_files c.args.faces) (mesh_name c.args.output.now) (IsThis text) c.args.desk.now Ele (text Ele) tt (ele_among c.args.faces) (λ t e. e) c.write_nodes.new.desk c.write_tets.new.desk c.in-Ok-write_tets.ensures.apart.others nodes c.in-Ok-write_tets.ensures.puts in
    let all = c.in-Ok-write_adjacency.ensures.continues (mesh_name c.args.output.now) text refl refl c.args.desk.now tets in
    let m = mesh c.args.survey.now.subject.field c.args.survey.now.subject.shares in
    let told = c.deref.ensures.value ∙ (c.in-Ok-report_text.ensures ∙ report_by m c.node_count-nodes.result c.tet_count-tets.result c.in-Ok-write_tets.extremes c.args.numbering c.node_count-nodes.ensures c.tet_count-tets.ensures c.in-Ok-write_tets.ensures.extremes) in
    reported g.D.Desk.ports (mesh_files c.args.faces) (mesh_name c.args.output.now) (IsThis text) c.args.desk.now (length (mesh_files c.args.faces)) c.write_adjacency.new.desk (last_turn c.args.faces) all c.deref.result.now (λ t e. e ∙ sym told) c.write_report.new.desk c.write_report.ensures.apart.others c.write_report.result c.write_report.ensures.reports

-- ---- the names that it tries

pub returns-in-Err-write_nodes-clause-tries : goal.returns-in-Err-write_nodes-clause-tries
returns-in-Err-write_nodes-clause-tries g c = all_along _ _ _ _ c.in-Ok.ensures.tries c.in-Err-write_nodes.ensures.apart.tried

pub returns-in-Err-write_tets-clause-tries : goal.returns-in-Err-write_tets-clause-tries
returns-in-Err-write_tets-clause-tries g c = all_along _ _ _ _ c.in-Ok.ensures.tries (c.in-Err-write_tets.ensures.apart.tried ∙ c.in-Ok-write_nodes.ensures.apart.tried)

pub returns-in-Err-write_adjacency-clause-tries : goal.returns-in-Err-write_adjacency-clause-tries
returns-in-Err-write_adjacency-clause-tries g c =
    all_along _ _ _ _ c.in-Ok.ensures.tries (c.in-Err-write_adjacency.ensures.tried ∙ (c.in-Ok-write_tets.ensures.apart.tried ∙ c.in-Ok-write_nodes.ensures.apart.tried))

pub returns-in-Err-report_text-clause-tries : goal.returns-in-Err-report_text-clause-tries
returns-in-Err-report_text-clause-tries g c =
    all_along _ _ _ _ c.in-Ok.ensures.tries (c.in-Ok-write_adjacency.ensures.tried ∙ (c.in-Ok-write_tets.ensures.apart.tried ∙ c.in-Ok-write_nodes.ensures.apart.tried))

pub returns-in-Ok-report_text-clause-tries : goal.returns-in-Ok-report_text-clause-tries
returns-in-Ok-report_text-clause-tries g c =
    all_along _ _ _ _ c.in-Ok.ensures.tries (c.write_report.ensures.apart.tried ∙ (c.in-Ok-write_adjacency.ensures.tried ∙ (c.in-Ok-write_tets.ensures.apart.tried ∙ c.in-Ok-write_nodes.ensures.apart.tried)))
