use Rattle.std.proofs.Common.{arith, ◌≡◌, ◌≤◌, ◌^◌, ap, ◌∙◌}
use Rattle.definitions.specs.Lattice.{layers}
use Rattle.samples.specs.SignCounts.{signs_below, layer_count}
use Rattle.samples.specs.declared.count.Signs.{Signs}
use Rattle.samples.proofs.SignCounts.{one_more, at_most, all_signs, few_in_layer, few_layers}
use Rattle.samples.proofs.count.count_signs.Goals as goal

pub both-signs-requires-clause-signs : goal.both-signs-requires-clause-signs
both-signs-requires-clause-signs c =
    let f = c.args.field.now in
    let all : c.layers-h-end.result ≡ layers f.dims = c.layers-h-end.ensures.layers ∙ ap layers c.dims.ensures.value in
    let below : c.loop-h.h ≤ layers f.dims = let t = c.loop-h-test.true in omega arith in
    at_most (2 ^ 53) (2 ^ 62) c.loop-h.signs _ c.loop-h.invariant (few_layers f c.dims.ensures.field.sizes c.loop-h.h below) (omega arith)

pub both-signs-requires-clause-others : goal.both-signs-requires-clause-others
both-signs-requires-clause-others c =
    at_most (2 ^ 26) (2 ^ 62) c.count_layer.result _ c.count_layer.ensures (few_in_layer c.args.field.now c.dims.ensures.field.sizes c.loop-h.h) (omega arith)

pub loop-h-preserved : goal.loop-h-preserved
loop-h-preserved c =
    one_more c.loop-h.h (layer_count c.args.field.now) c.loop-h.signs c.count_layer.result c.both-signs.result c.loop-h.invariant c.count_layer.ensures c.both-signs.ensures

whole : (c : goal.After-loop-h) → c.loop-h.signs ≡ signs_below (layers c.args.field.now.dims) (layer_count c.args.field.now)
whole c =
    let n : c.loop-h.h ≡ c.layers-h-end.result = omega arith in
    c.loop-h.invariant ∙ ap (λ n. signs_below n (layer_count c.args.field.now)) (n ∙ c.layers-h-end.ensures.layers ∙ ap layers c.dims.ensures.value)

pub returns-clause-plus : goal.returns-clause-plus
returns-clause-plus c = let e = whole c ∙ all_signs c.args.field.now in ap (λ (s : Signs). s.plus) e

pub returns-clause-zero : goal.returns-clause-zero
returns-clause-zero c = let e = whole c ∙ all_signs c.args.field.now in ap (λ (s : Signs). s.zero) e

pub returns-clause-minus : goal.returns-clause-minus
returns-clause-minus c = let e = whole c ∙ all_signs c.args.field.now in ap (λ (s : Signs). s.minus) e
