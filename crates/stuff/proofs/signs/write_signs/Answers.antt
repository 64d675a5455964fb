use Rattle.std.proofs.Common.{[], ◌≡◌, ◌∙◌, sym, refl}
use Rattle.formats.specs.declared.Status.TheVariants.{NoMemory}
use Rattle.stuff.specs.Outputs.{signs_text}
use Rattle.stuff.proofs.PortEnds.{reports, untouched}
use Rattle.stuff.proofs.signs.write_signs.Goals as goal

pub returns-in-Ok-clause-ends : goal.returns-in-Ok-clause-ends
returns-in-Ok-clause-ends g c = λ name.
    reports g.D.Desk.ports c.write_report.result name (λ p text. text ≡ signs_text c.args.field.now p) c.deref.result.now c.args.desk.now c.write_report.new.desk
    (λ text e. e ∙ sym (c.deref.ensures.value ∙ c.in-Ok.ensures)) c.write_report.ensures.reports c.write_report.ensures.apart.others
    c.requires.faults

pub returns-in-Err-clause-ends : goal.returns-in-Err-clause-ends
returns-in-Err-clause-ends g c = λ name.
    untouched g.D.Desk.ports NoMemory [] name (λ p text. text ≡ signs_text c.args.field.now p) c.args.desk.now c.args.desk.now refl (λ p t. refl)
    c.requires.faults
