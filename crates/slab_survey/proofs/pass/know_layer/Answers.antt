use Rattle.std.proofs.Common.{◌≡◌, Bool, ap, ◌∙◌, subst}
use Rattle.list_words.specs.Words.{has}
use Rattle.list_words.proofs.Lists.{has_new}
use Rattle.layer_cells.specs.Seats.{CellSeatValue}
use Rattle.layer_cells.specs.Answers.{seat_looked}
use Rattle.slab_survey.proofs.pass.know_layer.Goals as goal

pub make_layer-requires-clause-down : goal.make_layer-requires-clause-down
make_layer-requires-clause-down g c =
    let l = subst (λ (b : Bool). c.look.new.seat ≡ seat_looked c.args.seat.now c.args.h b) c.if-look.false c.look.ensures.seat in
    ap (λ (s : CellSeatValue). has c.args.h s.down) l ∙ has_new c.args.h c.args.seat.now.down
