use Rattle.std.proofs.Common.{[], ◌≡◌, ◌∙◌, sym, refl}
use Rattle.formats.specs.declared.Status.TheVariants.{NoMemory}
use Rattle.stuff.specs.Outputs.{demo_field, demo_text}
use Rattle.stuff.proofs.PortEnds.{reports, untouched}
use Rattle.stuff.specs.Outputs.{usual_shares}
use Rattle.stuff.proofs.Traced.{kept}
use Rattle.stuff.proofs.demo.make_demo.Goals as goal

pub returns-in-Ok-clause-ends : goal.returns-in-Ok-clause-ends
returns-in-Ok-clause-ends g c = λ name.
    reports g.D.Desk.ports c.write_report-status.result name (λ p text. text ≡ demo_text (demo_field c.args.size c.args.seed) p) c.deref.result.now c.args.desk.now c.write_report-status.new.desk
    (λ text e. e ∙ sym (c.deref.ensures.value ∙ c.in-Ok.ensures.text)) c.write_report-status.ensures.reports c.write_report-status.ensures.apart.others
    c.requires.faults

pub returns-in-Err-clause-ends : goal.returns-in-Err-clause-ends
returns-in-Err-clause-ends g c = λ name.
    untouched g.D.Desk.ports NoMemory [] name (λ p text. text ≡ demo_text (demo_field c.args.size c.args.seed) p) c.args.desk.now c.args.desk.now refl (λ p t. refl)
    c.requires.faults

pub returns-in-Ok-clause-trace : goal.returns-in-Ok-clause-trace
returns-in-Ok-clause-trace g c = kept c.write_report-status.result (demo_field c.args.size c.args.seed) usual_shares c.args.plan.slab _ c.keep_trace.new.trace c.in-Ok.ensures.trace c.keep_trace.ensures
