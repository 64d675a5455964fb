use Rattle.std.proofs.Common.{◌+◌, ◌<◌, ap, ◌∙◌, arith}
use Rattle.definitions.specs.States.{code}
use Rattle.lattice_counts.specs.Counts.{row_len}
use Rattle.snap_rule.proofs.Alike.{told_alike}
use Rattle.snap_rule.proofs.layers.write_block.Goals as goal

pub returns-in-Some-clause-row : goal.returns-in-Some-clause-row
returns-in-Some-clause-row c b h =
    let column : c.args.i + b < row_len c.args.field.now.dims.nx c.args.h = let most = c.requires.columns in omega arith in
    c.write_same.ensures.same b h
    ∙ c.sign_code.ensures
    ∙ ap code (told_alike c.args.field.now c.args.shares c.args.h c.args.j c.args.i b c.signs_around-signs.result c.in-Some.sign c.requires.layer c.requires.row column c.signs_around-signs.ensures (c.in-Some.ensures b h))
