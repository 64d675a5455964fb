use Rattle.std.proofs.Common.{◌≡◌, ◌∙◌}
use Rattle.mesh_files.specs.Verdicts.{verdict}
use Rattle.mesh_audit.specs.FitTogether.{FitTogether, IsSoundVerdict}
use Rattle.file_audit.proofs.FilesRead.{for_read}
use Rattle.file_audit.proofs.Tried.{may_grow, one_grows}
use Rattle.file_audit.proofs.auditing.audit_named.Goals as goal

pub returns-in-Ok-clause-verdict : goal.returns-in-Ok-clause-verdict
returns-in-Ok-clause-verdict g c =
    for_read (λ n tets v. v ≡ verdict n tets) c.audit_tets.result (g.D.Desk.held c.args.desk.now c.args.node.now) (g.D.Desk.held c.args.desk.now c.args.ele.now) c.in-Ok.nodes
    (λ text e. c.in-Ok.ensures.says text e)
    (λ text tets e f. c.audit_tets.ensures.verdict text tets (c.in-Ok.ensures.apart.held c.args.ele.now ∙ e) f)

pub returns-in-Ok-clause-sound : goal.returns-in-Ok-clause-sound
returns-in-Ok-clause-sound g c =
    for_read (λ n tets v. IsSoundVerdict v → FitTogether n.places tets) c.audit_tets.result (g.D.Desk.held c.args.desk.now c.args.node.now) (g.D.Desk.held c.args.desk.now c.args.ele.now) c.in-Ok.nodes
    (λ text e. c.in-Ok.ensures.says text e)
    (λ text tets e f. c.audit_tets.ensures.sound text tets (c.in-Ok.ensures.apart.held c.args.ele.now ∙ e) f)

pub returns-in-Ok-clause-tried : goal.returns-in-Ok-clause-tried
returns-in-Ok-clause-tried g c =
    one_grows c.audit_tets.result (g.D.Desk.tried c.args.desk.now) (g.D.Desk.tried c.nodes_under.new.desk) (g.D.Desk.tried c.audit_tets.new.desk) c.args.node.now c.args.ele.now
    c.in-Ok.ensures.tried c.audit_tets.ensures.all_tried c.audit_tets.ensures.may_try

pub returns-in-Err-clause-tried : goal.returns-in-Err-clause-tried
returns-in-Err-clause-tried g c =
    may_grow (g.D.Desk.tried c.args.desk.now) (g.D.Desk.tried c.nodes_under.new.desk) c.args.node.now _ c.in-Err.ensures.may_try
