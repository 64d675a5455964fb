use Rattle.std.proofs.Common.{sym, ap, ◌∙◌, arith}
use Rattle.slab_claims.specs.Seats.{ClaimsValue, SeatValue}
use Rattle.slab_claims.proofs.Steps.{splits}
use Rattle.slab_claims.proofs.claims.Claims.split.Goals as goal

pub split_seat-given-requires : goal.split_seat-given-requires
split_seat-given-requires c =
    let of = ap (λ (s : SeatValue). s.of.id) c.seat.view_is ∙ ap (λ (w : ClaimsValue). w.id) (c.requires.table ∙ sym c.self.view_is) in
    let share = ap (λ (s : SeatValue). s.share) c.seat.view_is in
    (of, omega arith, splits _ _ _ c.seat.inside.seat.me.0 (omega arith))
