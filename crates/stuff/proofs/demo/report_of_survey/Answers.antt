use Rattle.std.proofs.Common.{◌∙◌, ap}
use Rattle.definitions.specs.Angles.{angles, extremes_of}
use Rattle.definitions.specs.Mesh.{Mesh, mesh}
use Rattle.std.proofs.lemmas.Result.{IfOk-weaker}
use Rattle.stuff.proofs.Reports.{report_by}
use Rattle.stuff.proofs.Surveys.{mesh_is}
use Rattle.stuff.proofs.demo.report_of_survey.Goals as goal

pub returns : goal.returns
returns g c =
    let same = mesh_is c.args.survey.now c.source_of-source.result c.source_of-source.ensures in
    IfOk-weaker c.report_text.result _ _
    (λ text e. e
    ∙ report_by (mesh c.args.survey.now.subject.field c.args.survey.now.subject.shares) c.node_count-nodes.result c.tet_count-tets.result c.in_ok-extremes.extremes 0 c.node_count-nodes.ensures c.tet_count-tets.ensures
    (c.in_ok-extremes.ensures ∙ ap (λ (m : Mesh). extremes_of (angles m)) same))
    c.report_text.ensures
