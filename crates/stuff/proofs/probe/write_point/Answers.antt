use Rattle.std.proofs.Common.{[], ◌≡◌, ◌∙◌, sym, refl}
use Rattle.formats.specs.declared.Status.TheVariants.{NoMemory}
use Rattle.stuff.specs.Outputs.{point_text}
use Rattle.stuff.proofs.PortEnds.{reports, untouched}
use Rattle.stuff.proofs.Traced.{kept}
use Rattle.stuff.proofs.probe.write_point.Goals as goal

pub returns-in-Ok-clause-ends : goal.returns-in-Ok-clause-ends
returns-in-Ok-clause-ends g c = λ name.
    reports g.D.Desk.ports c.write_report-status.result name (λ p text. text ≡ point_text c.args.field.now c.args.shares c.args.point p) c.deref.result.now c.args.desk.now c.write_report-status.new.desk
    (λ text e. e ∙ sym (c.deref.ensures.value ∙ c.in-Ok.ensures.text)) c.write_report-status.ensures.reports c.write_report-status.ensures.apart.others c.requires.faults

pub returns-in-Err-clause-ends : goal.returns-in-Err-clause-ends
returns-in-Err-clause-ends g c = λ name.
    untouched g.D.Desk.ports NoMemory [] name (λ p text. text ≡ point_text c.args.field.now c.args.shares c.args.point p) c.args.desk.now c.args.desk.now refl (λ p t. refl) c.requires.faults

pub returns-in-Ok-clause-trace : goal.returns-in-Ok-clause-trace
returns-in-Ok-clause-trace g c = kept c.write_report-status.result c.args.field.now c.args.shares 4 _ c.keep_trace.new.trace c.in-Ok.ensures.trace c.keep_trace.ensures
