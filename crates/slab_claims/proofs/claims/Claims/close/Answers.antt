use Rattle.std.proofs.Common.{sym, ap, ◌∙◌, subst}
use Rattle.slab_claims.specs.declared.rule.View.{View}
use Rattle.list_words.specs.Words.{EachOnce}
use Rattle.slab_claims.specs.Seats.{ClaimsValue, SeatValue}
use Rattle.slab_claims.proofs.Steps.{ends}
use Rattle.slab_claims.proofs.claims.Claims.close.Goals as goal

pub invariant_of-result : goal.invariant_of-result
invariant_of-result c =
    let v : View = c.seat.inside.seat.me.0 in
    let whole = ap (λ (s : SeatValue). s.share) c.seat.view_is ∙ c.requires.whole ∙ ap (λ (w : ClaimsValue). w.seats) (sym c.self.view_is) in
    let done = ap (λ (s : SeatValue). s.done) c.seat.view_is ∙ c.requires.done in
    let e = ends _ _ _ v _ _ c.close_with-closed.ensures.values.2 c.seat.invariant.1 whole done in
    subst (λ (s : _). EachOnce s.me.0.slabs s.me.0.drawn) (sym c.of-last.ensures) e

pub returns-clause-each_once : goal.returns-clause-each_once
returns-clause-each_once c = invariant_of-result c
