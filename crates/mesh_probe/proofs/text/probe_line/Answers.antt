use Rattle.std.proofs.Common.{◌∙◌}
use Rattle.mesh_probe.proofs.ProbeTexts.{text_of_hold, text_outside}
use Rattle.mesh_probe.proofs.text.probe_line.Goals as goal

pub returns-in-Ok : goal.returns-in-Ok
returns-in-Ok c =
    c.in-Ok.ensures ∙ text_of_hold c.args.field.now c.args.shares c.args.point c.in-Some.hold c.hold_number-number.result c.in-Some.ensures.hold c.hold_number-number.ensures.number

pub returns-in-Ok-outside_line : goal.returns-in-Ok-outside_line
returns-in-Ok-outside_line c = c.in-Ok-outside_line.ensures ∙ text_outside c.args.field.now c.args.shares c.args.point c.in-None.ensures.hold
