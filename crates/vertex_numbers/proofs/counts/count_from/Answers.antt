use Rattle.std.proofs.Common.{◌+◌, ◌≤◌, arith, ap, subst, sym, ◌∙◌}
use Rattle.vertex_numbers.specs.Counts.{nodes_at_id, pieces_at_id, vertex_nodes, vertex_pieces}
use Rattle.vertex_numbers.specs.Rows.{AreAlikeWithin, sign_if_plus}
use Rattle.vertex_numbers.proofs.Rows.{place_at, run_nodes, run_pieces}
use Rattle.vertex_numbers.proofs.Sums.{sum_first}
use Rattle.vertex_numbers.proofs.counts.count_from.Goals as goal

pub returns-clause-nodes : goal.returns-clause-nodes
returns-clause-nodes g c =
    let d = c.args.dims in
    let r = c.args.row in
    let a = c.args.i in
    let one = c.share_by_signs-one in
    let run = c.run_after-run in
    let t = g.S.StateSource.told c.args.from.now in
    let told = g.met.S.StateSource.same_told c.args.from.now one.new.from one.ensures.same in
    let alike = subst (λ f. AreAlikeWithin d f r (a + 1) run.result.end (sign_if_plus run.result.is_plus)) told run.ensures.alike in
    let low : a + 1 ≤ run.result.end = (let l = run.ensures.low in omega arith) in
    let here = c.vertex_in_row.ensures.vertex ∙ sym (place_at d c.requires.dims r c.requires.row a c.requires.place) in
    (λ i. (one.ensures.nodes ∙ ap (vertex_nodes d t) here) i
    + (c.share_of_run-more.ensures.nodes ∙ sym (run_nodes d c.requires.dims r c.requires.row t run.result.is_plus (a + 1) run.result.end low run.ensures.high alike)) i)
    ∙ sym (sum_first (nodes_at_id d t) r.start a run.result.end run.ensures.low)

pub returns-clause-tets : goal.returns-clause-tets
returns-clause-tets g c =
    let d = c.args.dims in
    let r = c.args.row in
    let a = c.args.i in
    let one = c.share_by_signs-one in
    let run = c.run_after-run in
    let t = g.S.StateSource.told c.args.from.now in
    let told = g.met.S.StateSource.same_told c.args.from.now one.new.from one.ensures.same in
    let alike = subst (λ f. AreAlikeWithin d f r (a + 1) run.result.end (sign_if_plus run.result.is_plus)) told run.ensures.alike in
    let low : a + 1 ≤ run.result.end = (let l = run.ensures.low in omega arith) in
    let here = c.vertex_in_row.ensures.vertex ∙ sym (place_at d c.requires.dims r c.requires.row a c.requires.place) in
    (λ i. (one.ensures.tets ∙ ap (vertex_pieces d t) here) i
    + (c.share_of_run-more.ensures.tets ∙ sym (run_pieces d c.requires.dims r c.requires.row t run.result.is_plus (a + 1) run.result.end low run.ensures.high alike)) i)
    ∙ sym (sum_first (pieces_at_id d t) r.start a run.result.end run.ensures.low)
