use Rattle.std.proofs.Common.{arith, ◌≡◌, ◌+◌, ◌<◌, ◌≤◌, ◌^◌, ℕ, ap, ◌∙◌}
use Rattle.definitions.specs.declared.Dims.{Dims}
use Rattle.lattice_counts.specs.Counts.{row_len}
use Rattle.samples.specs.SignCounts.{signs_below, row_count}
use Rattle.samples.proofs.SignCounts.{one_more, at_most, few_in_row, few_rows}
use Rattle.samples.proofs.count.count_layer.Goals as goal

-- a row of the layer is one of the padded image
within : (j n ny h : ℕ) → j < n → n ≡ row_len ny h → j ≤ ny + 2
within j n ny h lt e = omega arith

pub both-signs-requires-clause-signs : goal.both-signs-requires-clause-signs
both-signs-requires-clause-signs c =
    let f = c.args.field.now in
    let all : c.rows-j-end.result ≡ row_len f.dims.ny c.args.h = c.rows-j-end.ensures.rows ∙ ap (λ (d : Dims). row_len d.ny c.args.h) c.dims.ensures.value in
    at_most (2 ^ 26) (2 ^ 62) c.loop-j.signs _ c.loop-j.invariant (few_rows f c.dims.ensures.field.sizes c.args.h c.loop-j.j (within c.loop-j.j c.rows-j-end.result f.dims.ny c.args.h c.loop-j-test.true all)) (omega arith)

pub both-signs-requires-clause-others : goal.both-signs-requires-clause-others
both-signs-requires-clause-others c =
    at_most (2 ^ 26) (2 ^ 62) c.count_row.result _ c.count_row.ensures (few_in_row c.args.field.now c.dims.ensures.field.sizes c.args.h c.loop-j.j) (omega arith)

pub loop-j-preserved : goal.loop-j-preserved
loop-j-preserved c =
    one_more c.loop-j.j (row_count c.args.field.now c.args.h) c.loop-j.signs c.count_row.result c.both-signs.result c.loop-j.invariant c.count_row.ensures c.both-signs.ensures

pub returns : goal.returns
returns c =
    let f = c.args.field.now in
    let n : c.loop-j.j ≡ c.rows-j-end.result = omega arith in
    let all : c.rows-j-end.result ≡ row_len f.dims.ny c.args.h = c.rows-j-end.ensures.rows ∙ ap (λ (d : Dims). row_len d.ny c.args.h) c.dims.ensures.value in
    c.loop-j.invariant ∙ ap (λ n. signs_below n (row_count f c.args.h)) (n ∙ all)
