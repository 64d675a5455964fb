use Rattle.vertex_numbers.proofs.Rows.{before_fits, start_fits}
use Rattle.vertex_numbers.proofs.runs.row_of.Goals as goal

pub overflow_mul-result : goal.overflow_mul-result
overflow_mul-result c =
    before_fits c.args.dims c.requires.sizes c.args.h c.args.j c.ids_below.result c.columns.result c.requires.layer c.requires.row c.ids_below.ensures.start c.columns.ensures.columns

pub overflow_add-result : goal.overflow_add-result
overflow_add-result c =
    start_fits c.args.dims c.requires.sizes c.args.h c.args.j c.ids_below.result c.columns.result c.requires.layer c.requires.row c.ids_below.ensures.start c.columns.ensures.columns
