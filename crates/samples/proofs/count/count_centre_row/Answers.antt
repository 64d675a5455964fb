use Rattle.std.proofs.Common.{arith, ◌≡◌, ◌/◌, ◌^◌, ap, sym, ◌∙◌, w64, of_z, to_z}
use Rattle.std.proofs.Math.IntN.{◌+ℤ◌}
use Rattle.std.proofs.lemmas.Int.{ints}
use Rattle.definitions.specs.declared.Dims.{Dims}
use Rattle.lattice_counts.specs.Counts.{row_len}
use Rattle.samples.specs.SignCounts.{signs_below, signs_by, one, value_in_row}
use Rattle.samples.proofs.ValuesAt.{cube_by_sides}
use Rattle.samples.proofs.SignCounts.{centre_in_row, one_more, at_most, few_values}
use Rattle.samples.proofs.count.count_centre_row.Goals as goal

pub both-signs-requires-clause-signs : goal.both-signs-requires-clause-signs
both-signs-requires-clause-signs c =
    let f = c.args.field.now in
    let high = c.columns-i-end.ensures.small in
    at_most c.loop-i.i (2 ^ 62) c.loop-i.signs _ c.loop-i.invariant.counted (few_values c.loop-i.i (value_in_row f c.args.h c.args.j)) (omega arith)

pub loop-i-preserved : goal.loop-i-preserved
loop-i-preserved c =
    let f = c.args.field.now in
    let far : to_z w64 (of_z w64 c.side-far.result) ≡ c.side-far.result = omega (arith, ints) in
    let kept : to_z w64 (of_z w64 (to_z w64 c.loop-i.near-bits +ℤ to_z w64 (of_z w64 c.side-far.result))) ≡ to_z w64 c.loop-i.near-bits +ℤ c.side-far.result = omega (arith, ints) in
    let value : to_z w64 c.loop-i.near-bits +ℤ c.side-far.result ≡ value_in_row f c.args.h c.args.j c.loop-i.i =
    (λ t. c.loop-i.invariant.side t +ℤ c.side-far.ensures.value t) ∙ sym (cube_by_sides f c.loop-i.i c.args.j (c.args.h / 2)) ∙ centre_in_row f c.args.h c.args.j c.loop-i.i c.requires.odd in
    record {
      side = far ∙ c.side-far.ensures.value;
      small = omega (arith, ints);
      counted =
          one_more c.loop-i.i (λ i. one (value_in_row f c.args.h c.args.j i)) c.loop-i.signs c.one.result c.both-signs.result c.loop-i.invariant.counted
          (c.one.ensures.value ∙ ap (λ z. signs_by (one z)) (kept ∙ value))
          c.both-signs.ensures;
    }

pub returns : goal.returns
returns c =
    let f = c.args.field.now in
    let n : c.loop-i.i ≡ c.columns-i-end.result = omega arith in
    let all : c.columns-i-end.result ≡ row_len f.dims.nx c.args.h = c.columns-i-end.ensures.columns ∙ ap (λ (d : Dims). row_len d.nx c.args.h) c.dims.ensures.value in
    c.loop-i.invariant.counted ∙ ap (λ n. signs_below n (λ i. one (value_in_row f c.args.h c.args.j i))) (n ∙ all)
