use Rattle.std.proofs.Common.{sym, ap, ◌∙◌, arith}
use Rattle.slab_claims.specs.Seats.{ClaimsValue, SeatValue}
use Rattle.slab_claims.proofs.Steps.{joins}
use Rattle.slab_claims.proofs.claims.Claims.join.Goals as goal

pub join_seat-requires : goal.join_seat-requires
join_seat-requires c =
    let of = ap (λ (s : SeatValue). s.of.id) c.seat.view_is ∙ ap (λ (w : ClaimsValue). w.id) (c.requires.table ∙ sym c.self.view_is) in
    let other_of = ap (λ (s : SeatValue). s.of.id) c.other.view_is ∙ ap (λ (w : ClaimsValue). w.id) (c.requires.other ∙ sym c.self.view_is) in
    (of, other_of, c.other.invariant.0, omega arith, joins _ _ _ _ c.seat.inside.seat.me.0 c.other.inside.seat.me.0 c.seat.invariant.1)
