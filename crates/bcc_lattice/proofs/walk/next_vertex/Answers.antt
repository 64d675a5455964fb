use Rattle.std.proofs.Common.{◌+◌, ◌*◌, ◌<◌, ◌≤◌, ◌∙◌, arith}
use Rattle.bcc_lattice.proofs.NextVertex.{next_in_row, next_layer, next_row}
use Rattle.bcc_lattice.proofs.walk.next_vertex.Goals as goal

pub returns-then-v-axis_len : goal.returns-then-v-axis_len
returns-then-v-axis_len c =
    let x : c.args.v.x + 2 < 2 * c.args.dims.nx + 3 = let t = c.if-v-axis_len.true in let e = c.axis_len.ensures in omega arith in
    λ below. next_in_row c.args.dims c.args.v c.requires.domain x

pub returns-then-v-axis_len-2 : goal.returns-then-v-axis_len-2
returns-then-v-axis_len-2 c =
    let x : 2 * c.args.dims.nx + 3 ≤ c.args.v.x + 2 = let t = c.if-v-axis_len.false in let e = c.axis_len.ensures in omega arith in
    let y : c.args.v.y + 2 < 2 * c.args.dims.ny + 3 = let t = c.if-v-axis_len-2.true in let e = c.axis_len-2.ensures in omega arith in
    λ below. next_row c.args.dims c.args.v c.requires.domain x y

pub returns : goal.returns
returns c =
    let x : 2 * c.args.dims.nx + 3 ≤ c.args.v.x + 2 = let t = c.if-v-axis_len.false in let e = c.axis_len.ensures in omega arith in
    let y : 2 * c.args.dims.ny + 3 ≤ c.args.v.y + 2 = let t = c.if-v-axis_len-2.false in let e = c.axis_len-2.ensures in omega arith in
    λ below. c.first_vertex.ensures.vertex ∙ next_layer c.args.dims c.args.v c.requires.domain x y below
