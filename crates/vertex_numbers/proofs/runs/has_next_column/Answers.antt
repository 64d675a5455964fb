use Rattle.std.proofs.Common.{◌+◌, ◌<◌, ◌≤◌, ◌^◌, ℕ, Fits, w32, arith, ap, sym, subst, ◌∙◌}
use Rattle.definitions.specs.Lattice.{id}
use Rattle.lattice_counts.proofs.Ranks.{all_small}
use Rattle.vertex_numbers.specs.Alike.{HasColumn}
use Rattle.vertex_numbers.proofs.Rows.{column_after, next_place, place_id, place_within}
use Rattle.vertex_numbers.proofs.runs.has_next_column.Goals as goal

pub overflow_add-row : goal.overflow_add-row
overflow_add-row g c =
    let d = c.args.dims in
    let w = place_within d c.requires.dims c.args.row c.requires.row (c.args.i + 1) (next_place d c.requires.dims c.args.row c.requires.row c.args.i c.requires.place) in
    fits _ _ w (all_small d c.requires.dims)
  where
    fits : (n l : ℕ) → n < l → l ≤ 2 ^ 27 → Fits w32 n
    fits n l a b = omega arith

pub has_column-requires-clause-column : goal.has_column-requires-clause-column
has_column-requires-clause-column g c = subst (HasColumn c.args.dims) (sym c.vertex_in_row-v.ensures.vertex) (column_after c.args.dims c.requires.dims c.args.row c.requires.row c.args.i c.requires.place)

pub has_column-requires-clause-id : goal.has_column-requires-clause-id
has_column-requires-clause-id g c =
    let d = c.args.dims in
    sym (ap (id d) c.vertex_in_row-v.ensures.vertex ∙ place_id d c.requires.dims c.args.row c.requires.row (c.args.i + 1) (next_place d c.requires.dims c.args.row c.requires.row c.args.i c.requires.place))
