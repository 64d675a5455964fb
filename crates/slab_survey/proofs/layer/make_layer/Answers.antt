use Rattle.std.proofs.Common.{[], ◌∷◌, ◌++◌, ap, ◌∙◌}
use Rattle.definitions.specs.Layout.{layer_len, layer_start}
use Rattle.list_words.specs.Words.{has, joined}
use Rattle.layer_cells.specs.Seats.{CellSeatValue, Subject}
use Rattle.layer_cells.specs.Rule.{has_layer}
use Rattle.slab_survey.proofs.Numbers.{all_has}
use Rattle.slab_survey.proofs.layer.make_layer.Goals as goal

pub raise-requires-clause-table : goal.raise-requires-clause-table
raise-requires-clause-table g c = ap (λ (s : CellSeatValue). s.of) c.put_layer.ensures.put.rest ∙ c.requires.seat

pub raise-requires-clause-put : goal.raise-requires-clause-put
raise-requires-clause-put g c =
    let d = c.args.field.now.dims in
    ap (λ (a : Subject). has_layer a c.args.h c.put_layer.new.seat.put) c.requires.cells ∙ all_has (layer_start d c.args.h) (layer_len d c.args.h) c.put_layer.new.seat.put c.put_layer.ensures.put.ids

pub raise-requires-clause-down : goal.raise-requires-clause-down
raise-requires-clause-down g c = ap (λ (s : CellSeatValue). has c.args.h s.down) c.put_layer.ensures.put.rest ∙ c.requires.down

pub returns-clause-of : goal.returns-clause-of
returns-clause-of g c = ap (λ (s : CellSeatValue). s.of) c.raise.ensures ∙ ap (λ (s : CellSeatValue). s.of) c.put_layer.ensures.put.rest

pub returns-clause-seen : goal.returns-clause-seen
returns-clause-seen g c = ap (λ (s : CellSeatValue). s.seen) c.raise.ensures ∙ ap (λ (s : CellSeatValue). joined c.args.h s.seen) c.put_layer.ensures.put.rest

pub returns-clause-made : goal.returns-clause-made
returns-clause-made g c = ap (λ (s : CellSeatValue). s.made) c.raise.ensures ∙ ap (λ (s : CellSeatValue). s.made ++ c.args.h ∷ []) c.put_layer.ensures.put.rest
