use Rattle.std.proofs.Common.{◌+◌, arith, subst}
use Rattle.vertex_numbers.specs.Alike.{IsColumn}
use Rattle.vertex_numbers.specs.Rows.{row_vertex}
use Rattle.vertex_numbers.proofs.Rows.{alike_more}
use Rattle.vertex_numbers.proofs.runs.alike_until.Goals as goal

pub loop-k-preserved : goal.loop-k-preserved
loop-k-preserved g c =
    let d = c.args.dims in
    let r = c.args.row in
    let s = c.args.sign in
    let k = c.loop-k.k in
    let t = g.S.StateSource.told c.args.from.now in
    let i = c.loop-k.invariant in
    let told = g.met.S.StateSource.same_told c.args.from.now c.loop-k.from i.same in
    let below = c.loop-k-test.true in
    let next = subst (λ f. IsColumn d f (row_vertex r.h r.j (k + 1)) s) told (c.has_next_column.ensures.column c.if-not-has_next_column.false) in
    record {
      same = g.met.S.StateSource.follows c.args.from.now c.loop-k.from c.has_next_column.new.from i.same c.has_next_column.ensures.same;
      low = omega arith;
      high = omega arith;
      here = next;
      alike = alike_more d c.requires.dims r c.requires.row t s c.args.i k below i.alike i.here next;
    }
