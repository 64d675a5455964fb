use Rattle.std.proofs.Common.{◌∷◌, ◌++◌, [], sym, ◌∙◌, zero-add}
use Rattle.std.proofs.lemmas.List.FromFn.{map-range_with_len_more}
use Rattle.vertex_numbers.specs.Counts.{count_of_layer}
use Rattle.vertex_numbers.proofs.NumberedIds.{pushed}
use Rattle.lattice_tests.proofs.numbers.counts_of.Goals as goal

pub loop-h-preserved : goal.loop-h-preserved
loop-h-preserved c =
    let s = c.args.states.now in
    pushed _ _ _ _ c.push.ensures.items c.if-is_err.ensures.negation
    ∙ (λ i. c.loop-h.invariant i ++ c.count_of.ensures i ∷ [])
    ∙ sym (map-range_with_len_more (count_of_layer s.dims s.states) 0 c.loop-h.h c.loop-h.h (zero-add c.loop-h.h))
