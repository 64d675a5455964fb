use Rattle.std.proofs.Common.{rules, ◌≡◌, ℕ, ◌+◌, ℤ, sym, ◌∙◌, ap, arith, pos, w32, w64, to_z, of_z, Some}
use Rattle.std.specs.Int.{trailing_zeros}
use Rattle.std.specs.Prelude.{filter_map, slice_index_or}
use Rattle.std.specs.List.{range_with_len}
use Rattle.std.proofs.lemmas.Nat.Bits.{bit_at-trailing_zeros}
use Rattle.definitions.specs.Lists.{least_by}
use Rattle.definitions.specs.States.{is_nearer}
use Rattle.snap_laws.specs.Around.{near_here, nears_here, value_on}
use Rattle.snap_rule.specs.Near.{cut_here}
use Rattle.snap_rule.proofs.NearEdges.{at_first, at_last, is_there, less_without, lies, one_less, place}
use Rattle.snap_rule.proofs.Thresholds.{cut_if_near}
use Rattle.snap_rule.proofs.Values.{read}
use Rattle.snap_rule.proofs.state.nearest.Goals as goal

pub loop-left-init : goal.loop-left-init
loop-left-init c = (at_first is_nearer _ c.near_edges-left.result (record { each = c.near_edges-left.ensures.each; none = c.near_edges-left.ensures.none }), tt)

pub number-requires-clause-within : goal.number-requires-clause-within
number-requires-clause-within c =
    let lowest = bit_at-trailing_zeros w32 c.loop-left.left (omega arith) (search rules) in
    let low = lies is_nearer _ c.loop-left.left c.loop-left.best c.loop-left.invariant.0 (trailing_zeros w32 c.loop-left.left) lowest.1 in
    omega (arith, low, c.requires.len)

pub cut-requires-clause-edge_high : goal.cut-requires-clause-edge_high
cut-requires-clause-edge_high c =
    let lowest = bit_at-trailing_zeros w32 c.loop-left.left (omega arith) (search rules) in
    let low = lies is_nearer _ c.loop-left.left c.loop-left.best c.loop-left.invariant.0 (trailing_zeros w32 c.loop-left.left) lowest.1 in
    omega (arith, low)

pub loop-left-smaller : goal.loop-left-smaller
loop-left-smaller c =
    let lowest = bit_at-trailing_zeros w32 c.loop-left.left (omega arith) (search rules) in
    less_without c.loop-left.left (trailing_zeros w32 c.loop-left.left) lowest.0 lowest.1

pub loop-left-preserved : goal.loop-left-preserved
loop-left-preserved c =
    let lowest = bit_at-trailing_zeros w32 c.loop-left.left (omega arith) (search rules) in
    let n : ℕ = trailing_zeros w32 c.loop-left.left in
    let own : ℤ = to_z w64 (of_z w64 c.args.own) in
    let there = is_there is_nearer _ c.loop-left.left c.loop-left.best c.loop-left.invariant.0 n lowest.1 in
    let cut : c.cut.result ≡ cut_here own (value_on c.args.values.now (1 + n)) (1 + n) =
    c.cut.ensures.value
    ∙ (λ i. cut_here own (read c.number.result c.number.ensures.small i) (1 + n))
    ∙ (λ i. cut_here own (c.number.ensures.value i) (1 + n))
    ∙ (λ i. cut_here own (slice_index_or c.args.values.now (sym (place n) i) (pos 0)) (1 + n)) in (
      rw c.nearer.ensures.least (
          one_less is_nearer _ c.loop-left.left c.loop-left.best c.loop-left.invariant.0 n lowest.1 lowest.2 c.cut.result
          (cut_if_near c.args.shares own (value_on c.args.values.now (1 + n)) (1 + n) there ∙ ap Some (sym cut))
          ),
      c.nearer.ensures.cut,
    )

pub returns-clause-least : goal.returns-clause-least
unfolding nears_here
returns-clause-least c =
    at_last is_nearer _ c.loop-left.left c.loop-left.best c.loop-left-test.false c.loop-left.invariant.0
    ∙ (λ i. least_by is_nearer (filter_map (λ edge. near_here c.args.shares (read c.args.own c.requires.own i) (value_on c.args.values.now edge) edge) (range_with_len 1 14)))
