use Rattle.std.proofs.Common.{◌≡◌, ◌+◌, ◌∙◌, ℤ, sym, ap, arith, pos, w64, to_z, of_z, Bool, ℕ}
use Rattle.std.specs.Prelude.{is_some, slice_index_or, unsigned_abs}
use Rattle.snap_laws.specs.Around.{near_here, value_on}
use Rattle.snap_rule.specs.Near.{is_near_by}
use Rattle.snap_rule.proofs.NearEdges.{place, with_none, with_one}
use Rattle.snap_rule.proofs.Thresholds.{near_by_threshold}
use Rattle.snap_rule.proofs.Values.{read}
use Rattle.snap_rule.proofs.state.near_edges.Goals as goal
use Rattle.snap_rule.proofs.state.near_edges.Goals.{then-is_near, else-is_near}

pub loop-n-preserved : goal.loop-n-preserved
loop-n-preserved c =
    let own : ℤ = to_z w64 (of_z w64 c.args.own) in
    let same : unsigned_abs own ≡ unsigned_abs c.args.own = ap unsigned_abs (read c.args.own c.requires.own) in
    let f : ℕ → Bool = λ k. is_some (near_here c.args.shares own (value_on c.args.values.now (1 + k)) (1 + k)) in
    let here : c.is_near.result ≡ f c.loop-n.n =
    c.is_near.ensures
    ∙ (λ i. is_near_by c.new-thresholds.result (read c.number.result c.number.ensures.small i) (1 + c.loop-n.n))
    ∙ (λ i. is_near_by c.new-thresholds.result (c.number.ensures.value i) (1 + c.loop-n.n))
    ∙ (λ i. is_near_by c.new-thresholds.result (slice_index_or c.args.values.now (sym (place c.loop-n.n) i) (pos 0)) (1 + c.loop-n.n))
    ∙ near_by_threshold c.args.shares own (value_on c.args.values.now (1 + c.loop-n.n)) (1 + c.loop-n.n) c.new-thresholds.result (omega (arith, same, c.requires.some)) c.new-thresholds.ensures.values in
    elim c.if-is_near.branch [
      | then-is_near w ↦ rw w.near-is (with_one f c.loop-n.near c.loop-n.n (omega arith) (sym here ∙ w.if-is_near.true) c.loop-n.invariant)
      | else-is_near w ↦ rw w.near-is (with_none f c.loop-n.near c.loop-n.n (sym here ∙ w.if-is_near.false) c.loop-n.invariant)
    ]
