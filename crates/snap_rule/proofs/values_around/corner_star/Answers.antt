use Rattle.std.proofs.Common.{◌∙◌, ap, ◌-◌, ◌/◌, arith}
use Rattle.std.specs.Prelude.{map}
use Rattle.std.specs.List.{range_with_len}
use Rattle.definitions.specs.Values.{value}
use Rattle.samples.specs.declared.star.Star.{Star}
use Rattle.snap_laws.specs.Around.{around}
use Rattle.snap_rule.specs.Near.{in_order}
use Rattle.snap_rule.proofs.ValuesAround.{corner_of, own_corner, around_corner}
use Rattle.snap_rule.proofs.values_around.corner_star.Goals as goal

pub returns-clause-own : goal.returns-clause-own
returns-clause-own c =
    ap (λ (s : Star). s.own) c.corner_star.ensures.star
    ∙ own_corner c.args.field.now (c.args.v.x / 2 - 1) (c.args.v.y / 2 - 1) (c.args.v.h / 2 - 1) (omega arith) (omega arith) (omega arith)
    ∙ ap (value c.args.field.now) (corner_of c.args.v c.requires.even c.requires.domain.y_alike c.requires.domain.x_alike c.requires.inner.h_low c.requires.inner.y_low c.requires.inner.x_low)

pub returns-clause-around : goal.returns-clause-around
returns-clause-around c =
    ap in_order c.corner_star.ensures.star
    ∙ around_corner c.args.field.now (c.args.v.x / 2 - 1) (c.args.v.y / 2 - 1) (c.args.v.h / 2 - 1) (omega arith) (omega arith) (omega arith)
    ∙ (λ t. map (around c.args.field.now (corner_of c.args.v c.requires.even c.requires.domain.y_alike c.requires.domain.x_alike c.requires.inner.h_low c.requires.inner.y_low c.requires.inner.x_low t)) (range_with_len 1 14))
