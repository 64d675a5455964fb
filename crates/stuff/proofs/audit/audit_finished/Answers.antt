use Rattle.std.proofs.Common.{[], ◌≡◌, ◌∙◌, ap, sym}
use Rattle.formats.specs.declared.Verdict.{Verdict}
use Rattle.file_audit.specs.Status.{node_name, ele_name}
use Rattle.stuff.specs.Outputs.{verdict_line, IsAuditText}
use Rattle.stuff.proofs.PortEnds.{ends_along}
use Rattle.stuff.proofs.audit.audit_finished.Goals as goal

pub returns-in-Ok-clause-ends : goal.returns-in-Ok-clause-ends
returns-in-Ok-clause-ends g c = λ name.
    ends_along g.D.Desk.ports c.tell_verdict.result [] name (λ p text. text ≡ verdict_line c.in-Ok.verdict p) (IsAuditText (g.D.Desk.held c.args.desk.now (node_name c.args.name.now)) (g.D.Desk.held c.args.desk.now (ele_name c.args.name.now)))
    c.audit_files.new.desk c.args.desk.now c.tell_verdict.new.desk (λ p text t. t.text_is ∙ ap (λ (v : Verdict). verdict_line v p) (sym (c.in-Ok.ensures.verdict t.nodes t.tets t.are_read))) c.in-Ok.ensures.apart.ports
    (c.tell_verdict.ensures.ends name)
