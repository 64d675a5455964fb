use Rattle.vertex_numbers.proofs.LaterIds.{are_below, are_later, first_fits, fourth_fits, sixth_fits}
use Rattle.vertex_numbers.proofs.later.ids_of.Goals as goal

pub overflow_add-result : goal.overflow_add-result
overflow_add-result c =
    let ids = c.column_ids-ids in
    first_fits c.args.dims c.args.v c.requires.domain c.requires.all c.args.id c.requires.id ids.result ids.ensures c.requires.sizes

pub overflow_add-result-2 : goal.overflow_add-result-2
overflow_add-result-2 c =
    let ids = c.column_ids-ids in
    fourth_fits c.args.dims c.args.v c.requires.domain c.requires.all c.args.id c.requires.id ids.result ids.ensures c.requires.sizes

pub overflow_add-result-3 : goal.overflow_add-result-3
overflow_add-result-3 c =
    let ids = c.column_ids-ids in
    sixth_fits c.args.dims c.args.v c.requires.domain c.requires.all c.args.id c.requires.id ids.result ids.ensures c.requires.sizes

pub returns : goal.returns
returns c =
    let ids = c.column_ids-ids in
    record {
      later = are_later c.args.dims c.args.v c.requires.domain c.requires.all c.args.id c.requires.id ids.result ids.ensures;
      below = are_below c.args.dims c.args.v c.requires.domain c.requires.all c.args.id c.requires.id ids.result ids.ensures;
    }
