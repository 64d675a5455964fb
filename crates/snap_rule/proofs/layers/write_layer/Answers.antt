use Rattle.std.proofs.Common.{◌≡◌, ℕ, ◌+◌, ◌*◌, ◌<◌, ◌≤◌, length, ap, sym, ◌∙◌, arith, refl, rules, subst}
use Rattle.definitions.specs.declared.Dims.{Dims}
use Rattle.definitions.specs.States.{code, state_of}
use Rattle.lattice_counts.specs.Counts.{row_len, vertex_in_layer}
use Rattle.lattice_counts.proofs.Ranks.{layer_length}
use Rattle.lattice_counts.proofs.Places.{vertex_of_row}
use Rattle.snap_rule.proofs.Places.{part_more, rows_within, next_row}
use Rattle.snap_rule.proofs.layers.write_layer.Goals as goal

begin : (s w : ℕ) → s ≡ s + 0 * w
begin s w = omega arith

pub loop-j-init : goal.loop-j-init
loop-j-init c = (begin c.args.start (row_len c.args.field.now.dims.nx c.args.h), (λ p h. absurd (let w = row_len c.args.field.now.dims.nx c.args.h in omega arith)), λ k h. refl)

-- a row that begins in the layer ends in it
row_within : (s j m w at len : ℕ) → j < m → at ≡ s + j * w → s + m * w ≤ len → at + w ≤ len
row_within s j m w at len h e le = let r = rows_within j m w h in omega arith

pub write_row-requires-clause-room : goal.write_row-requires-clause-room
write_row-requires-clause-room c =
    let l = layer_length c.args.field.now.dims c.args.h in
    let rows = c.rows-j-end.ensures.rows ∙ ap (λ (d : Dims). row_len d.ny c.args.h) c.dims-dims.ensures.value in
    let t = c.loop-j-test.true in
    let lt : c.loop-j.j < row_len c.args.field.now.dims.ny c.args.h = omega arith in
    let same = c.loop-j.auto.out in
    let room : c.args.start + row_len c.args.field.now.dims.ny c.args.h * row_len c.args.field.now.dims.nx c.args.h ≤ length c.loop-j.out = let r = c.requires.room in omega arith in
    row_within c.args.start c.loop-j.j (row_len c.args.field.now.dims.ny c.args.h) (row_len c.args.field.now.dims.nx c.args.h) c.loop-j.at (length c.loop-j.out) lt c.loop-j.invariant.0 room

pub overflow_add-at : goal.overflow_add-at
overflow_add-at c = search rules

pub loop-j-preserved : goal.loop-j-preserved
loop-j-preserved c =
    let w = row_len c.args.field.now.dims.nx c.args.h in
    let e = next_row c.loop-j.j w in (
      advance c.args.start c.loop-j.j w c.loop-j.at c.columns-row.result c.loop-j.invariant.0 (c.columns-row.ensures.columns ∙ ap (λ (d : Dims). row_len d.nx c.args.h) c.dims-dims.ensures.value),
      (λ p h. part_more (λ q. code (state_of c.args.field.now c.args.shares (vertex_in_layer c.args.field.now.dims c.args.h q))) c.loop-j.out c.write_row.new.out c.args.start (c.loop-j.j * w) c.loop-j.at w
          c.loop-j.invariant.0 c.loop-j.invariant.1 c.write_row.ensures.below
          (λ i lt. c.write_row.ensures.row i lt ∙ ap (λ v. code (state_of c.args.field.now c.args.shares v)) (sym (vertex_of_row c.args.field.now.dims c.args.h c.loop-j.j i lt)))
          p (subst (λ m. p < m) e h)),
      (λ k h. c.write_row.ensures.below k (before k c.args.start (c.loop-j.j * w) c.loop-j.at h c.loop-j.invariant.0) ∙ c.loop-j.invariant.2 k h),
    )
  where
    advance : (s j w at r : ℕ) → at ≡ s + j * w → r ≡ w → at + r ≡ s + (j + 1) * w
    advance s j w at r e f = omega arith

    before : (k s n at : ℕ) → k < s → at ≡ s + n → k < at
    before k s n at h e = omega arith

pub returns : goal.returns
returns c =
    let l = layer_length c.args.field.now.dims c.args.h in
    let j : c.loop-j.j ≡ row_len c.args.field.now.dims.ny c.args.h = let e = c.rows-j-end.ensures.rows ∙ ap (λ (d : Dims). row_len d.ny c.args.h) c.dims-dims.ensures.value in omega arith in
    record {
      layer = λ p h. c.loop-j.invariant.1 p (subst (λ m. p < m) (l ∙ ap (λ m. m * row_len c.args.field.now.dims.nx c.args.h) (sym j)) h);
      below = c.loop-j.invariant.2;
      end = c.loop-j.invariant.0 ∙ ap (λ m. c.args.start + m) (ap (λ m. m * row_len c.args.field.now.dims.nx c.args.h) j ∙ sym l);
      sizes = c.dims-dims.ensures.field.sizes;
    }
