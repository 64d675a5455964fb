use Rattle.std.proofs.Common.{◌≡◌, ap, length, rules, ◌∙◌}
use Rattle.mesh_probe.specs.ProbeTexts.{hold_line}
use Rattle.mesh_probe.proofs.ProbeTexts.{four_decimals, hold_line_made}
use Rattle.mesh_probe.proofs.text.hold_line.Goals as goal

pub returns : goal.returns
returns c =
    let four : length c.args.weights ≡ 4 = search rules in
    hold_line_made _ _ _ _ _ _ _ _ _ _ _ _ c.new-text.ensures.items c.in_ok-add_number.ensures c.in_ok-add_number-2.ensures c.in_ok-add_number-3.ensures c.in_ok-add_number-4.ensures c.in_ok-add_number-5.ensures c.in_ok-push.ensures.items
    ∙ ap (hold_line c.args.number) (four_decimals c.args.weights four)
