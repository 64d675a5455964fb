use Rattle.std.proofs.Common.{true, false, ◌≡◌, sym, ◌∙◌}
use Rattle.mesh_probe.proofs.HeldPoints.{held_in_box}
use Rattle.mesh_probe.proofs.weights.weights_of.Goals as goal

never : true ≡ false → ⊥
never e = cc

pub returns-else-is_in_box : goal.returns-else-is_in_box
returns-else-is_in_box c = λ h. never (sym (c.is_in_box.ensures ∙ held_in_box c.args.tet c.args.point c.requires.positive h) ∙ c.if-is_in_box.false)
