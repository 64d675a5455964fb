use Rattle.std.proofs.Common.{arith, ◌≡◌, ◌^◌, ap, ◌∙◌, w64, of_z, to_z}
use Rattle.std.proofs.Math.IntN.{pos, ◌*ℤ◌}
use Rattle.std.proofs.lemmas.Int.{ints}
use Rattle.definitions.specs.declared.Dims.{Dims}
use Rattle.lattice_counts.specs.Counts.{row_len}
use Rattle.samples.specs.SignCounts.{signs_below, signs_by, one, value_in_row}
use Rattle.samples.proofs.SignCounts.{corner_in_row, one_more, at_most, few_values}
use Rattle.samples.proofs.count.count_corner_row.Goals as goal

pub both-signs-requires-clause-signs : goal.both-signs-requires-clause-signs
both-signs-requires-clause-signs c =
    let f = c.args.field.now in
    let high = c.columns-i-end.ensures.small in
    at_most c.loop-i.i (2 ^ 62) c.loop-i.signs _ c.loop-i.invariant (few_values c.loop-i.i (value_in_row f c.args.h c.args.j)) (omega arith)

pub loop-i-preserved : goal.loop-i-preserved
loop-i-preserved c =
    let f = c.args.field.now in
    let kept : to_z w64 (of_z w64 (pos 8 *ℤ to_z w64 (of_z w64 c.difference.result))) ≡ pos 8 *ℤ c.difference.result = omega (arith, ints) in
    one_more c.loop-i.i (λ i. one (value_in_row f c.args.h c.args.j i)) c.loop-i.signs c.one.result c.both-signs.result c.loop-i.invariant
    (c.one.ensures.value ∙ ap (λ z. signs_by (one z)) (kept ∙ ap (λ d. pos 8 *ℤ d) c.difference.ensures.value ∙ corner_in_row f c.args.h c.args.j c.loop-i.i c.requires.even))
    c.both-signs.ensures

pub returns : goal.returns
returns c =
    let f = c.args.field.now in
    let n : c.loop-i.i ≡ c.columns-i-end.result = omega arith in
    let all : c.columns-i-end.result ≡ row_len f.dims.nx c.args.h = c.columns-i-end.ensures.columns ∙ ap (λ (d : Dims). row_len d.nx c.args.h) c.dims.ensures.value in
    c.loop-i.invariant ∙ ap (λ n. signs_below n (λ i. one (value_in_row f c.args.h c.args.j i))) (n ∙ all)
