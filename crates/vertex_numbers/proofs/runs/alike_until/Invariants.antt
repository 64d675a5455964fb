use Rattle.std.proofs.Common.{◌≤◌}
use Rattle.vertex_numbers.specs.Alike.{IsColumn}
use Rattle.vertex_numbers.specs.Rows.{AreAlikeWithin, row_vertex}
use Rattle.vertex_numbers.proofs.runs.alike_until.Given as goal

abbrev pub invariant-loop-k : goal.invariant-loop-k
invariant-loop-k g l =
    let t = g.S.StateSource.told l.fn.from in
    record {
      same : g.S.StateSource.unchanged l.fn.from l.from;
      low : l.fn.i ≤ l.k;
      high : l.k ≤ l.row.followed;
      here : IsColumn l.dims t (row_vertex l.row.h l.row.j l.k) l.sign;
      alike : AreAlikeWithin l.dims t l.row l.fn.i l.k l.sign;
    }
