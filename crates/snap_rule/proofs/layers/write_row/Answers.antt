use Rattle.std.proofs.Common.{◌≡◌, ℕ, ◌+◌, ◌-◌, ◌*◌, ◌/◌, ◌<◌, ap, refl, ◌∙◌, arith}
use Rattle.std.specs.Prelude.{min}
use Rattle.definitions.specs.declared.Dims.{Dims}
use Rattle.definitions.specs.States.{code, state_of}
use Rattle.lattice_counts.specs.Counts.{row_len}
use Rattle.snap_rule.specs.Alike.{vertex_of_row}
use Rattle.snap_rule.proofs.Places.{part_more}
use Rattle.snap_rule.proofs.layers.write_row.Goals as goal

pub loop-m-preserved : goal.loop-m-preserved
loop-m-preserved c =
    let f = c.args.field.now in
    let m = c.loop-m.m in
    let row = row_len f.dims.nx c.args.h in
    let columns : c.columns-columns.result ≡ row = c.columns-columns.ensures.columns ∙ ap (λ (d : Dims). row_len d.nx c.args.h) c.dims.ensures.value in
    let some : m < (c.columns-columns.result + 60) / 61 = let t = c.loop-m-test.true in omega arith in (
      (λ i lt.
          part_more (λ i. code (state_of f c.args.shares (vertex_of_row c.args.h c.args.j i))) c.loop-m.out c.write_block.new.out c.args.start (m * 61) (c.args.start + m * 61) c.min-count.result refl
          (λ i h. c.loop-m.invariant.0 i (written m c.columns-columns.result row i columns some h))
          c.write_block.ensures.below c.write_block.ensures.row i (next m c.columns-columns.result row c.min-count.result i columns c.min-count.ensures lt)),
      (λ k h. c.write_block.ensures.below k (before k c.args.start (m * 61) h) ∙ c.loop-m.invariant.1 k h),
    )
  where
    written : (m n row i : ℕ) → n ≡ row → m < (n + 60) / 61 → i < m * 61 → i < min (m * 61) row
    written m n row i e some h = omega arith

    next : (m n row count i : ℕ) → n ≡ row → count ≡ min 61 (n - m * 61) → i < min ((m + 1) * 61) row → i < m * 61 + count
    next m n row count i e g h = omega arith

    before : (k s n : ℕ) → k < s → k < s + n
    before k s n h = omega arith
