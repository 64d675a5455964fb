use Rattle.std.proofs.Common.{◌≡◌, ◌+◌, ◌-◌, length, length-append, subst, sym, ap, ◌∙◌, [], ◌∷◌, All, arith}
use Rattle.std.proofs.lemmas.List.Elements.{All-push}
use Rattle.std.proofs.lemmas.List.Sums.{sum_by_push}
use Rattle.slab_claims.specs.Seats.{SeatValue}
use Rattle.slab_emit.specs.declared.worker.Worker.{Worker}
use Rattle.slab_emit.specs.Workers.{IsReady, shares_of}
use Rattle.slab_emit.proofs.round.hire.Goals as goal

pub loop-number-preserved : goal.loop-number-preserved
loop-number-preserved c =
    let i = c.loop-number.invariant in
    let w = c.in_ok-worker.worker in
    let e = c.in_ok-worker.ensures in
    let kept = c.split-given.ensures.kept in
    let items = c.push_reserved.ensures.items in
    let long : length c.push_reserved.new.self.items ≡ length c.loop-number.hired.items + 1 = ap length items ∙ length-append c.loop-number.hired.items (w ∷ []) in
    let sum : shares_of c.push_reserved.new.self.items ≡ shares_of c.loop-number.hired.items + w.seat.share = ap shares_of items ∙ sum_by_push (λ (u : Worker). u.seat.share) c.loop-number.hired.items w in
    let one : w.seat.share ≡ 1 = e.share ∙ ap (λ (s : SeatValue). s.share) c.split-given.ensures.given in
    let less : c.split-given.new.seat.share ≡ c.loop-number.seat.share - 1 = ap (λ (s : SeatValue). s.share) kept in
    let was = i.share in
    let shares = i.shares in
    let many = i.long in
    let test = c.loop-number-test.true in
    record {
      of = ap (λ (s : SeatValue). s.of) kept ∙ i.of;
      share = omega arith;
      shares = omega arith;
      going = ap (λ (s : SeatValue). s.done) kept ∙ i.going;
      none_drawn = ap (λ (s : SeatValue). s.drawn) kept ∙ i.none_drawn;
      ready = subst (All (IsReady c.args.claims.now)) (sym items) (All-push (IsReady c.args.claims.now) c.loop-number.hired.items w i.ready e.ready);
      long = omega arith;
      crew = c.worker_of.ensures.crew ∙ i.crew;
      room = (let r = i.room in let p = c.push_reserved.ensures.capacity in omega arith);
    }

pub returns-clause-ready : goal.returns-clause-ready
returns-clause-ready c =
    subst (All (IsReady c.args.claims.now)) (sym c.push_reserved-2.ensures.items) (All-push (IsReady c.args.claims.now) c.loop-number.hired.items c.in_ok-last.last c.loop-number.invariant.ready c.in_ok-last.ensures.ready)
