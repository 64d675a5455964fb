use Rattle.std.proofs.Common.{◌∙◌, List, take, set, sym, ap}
use Rattle.std.specs.Prelude.{slice_index_or}
use Rattle.std.proofs.lemmas.List.{length-set, take_more}
use Rattle.vertex_numbers.specs.declared.LayerCount.{LayerCount}
use Rattle.survey_workers.specs.Tables.{with_counts}
use Rattle.survey_workers.proofs.Tables.{filled_push}
use Rattle.survey_workers.proofs.gathering.fill.Goals as goal

pub loop-k-preserved : goal.loop-k-preserved
loop-k-preserved c =
    let i = c.loop-k.invariant in
    let none : LayerCount = record { h = 0; nodes = 0; tets = 0 } in
    let x : LayerCount = slice_index_or c.args.counts.now c.loop-k.k none in
    let lt = c.loop-k-test.true in
    let more = take_more c.args.counts.now c.loop-k.k none lt in (
      ap (λ (l : List LayerCount). set l x.h x) i.0 ∙ sym (filled_push c.args.table.now.items (take c.loop-k.k c.args.counts.now) x) ∙ ap (with_counts c.args.table.now.items) (sym more),
      length-set c.loop-k.table.items x.h x ∙ i.1,
    )
