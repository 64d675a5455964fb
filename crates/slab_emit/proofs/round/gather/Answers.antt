use Rattle.std.proofs.Common.{◌≡◌, ◌+◌, ◌++◌, ◌||◌, List, All, true, ⊎_elim, ap, subst, sym, ◌∙◌, Option, Some, arith}
use Rattle.std.specs.Option.{option_to_list}
use Rattle.std.proofs.lemmas.List.Elements.{All-pop}
use Rattle.std.proofs.lemmas.List.Sums.{sum_by_push}
use Rattle.std.specs.Prelude.{IfSome}
use Rattle.std.proofs.lemmas.Bool.{or_cases}
use Rattle.list_words.specs.Words.{has}
use Rattle.list_words.proofs.Lists.{has_append}
use Rattle.slab_claims.specs.Seats.{SeatValue}
use Rattle.slab_emit.specs.declared.worker.Worker.{Worker}
use Rattle.slab_emit.specs.Workers.{HasMade, IsFinished, shares_of}
use Rattle.slab_emit.proofs.round.gather.Goals as goal

-- what holds of all workers holds of the last of them
last_of : (P : Worker → Type 0) (xs ys : List Worker) (w : Worker) (r : Option Worker) → xs ≡ ys ++ option_to_list r → r ≡ Some w → All P xs → P w
last_of P xs ys w r items is h = subst (λ (o : Option Worker). IfSome o P) is (All-pop P xs ys r items h).1

total : (xs ys : List Worker) (w : Worker) (r : Option Worker) → xs ≡ ys ++ option_to_list r → r ≡ Some w → shares_of xs ≡ shares_of ys + w.seat.share
total xs ys w r items is = ap shares_of (items ∙ ap (λ (o : Option Worker). ys ++ option_to_list o) is) ∙ sum_by_push (λ (u : Worker). u.seat.share) ys w

pub take_in-seat-requires-clause-finished : goal.take_in-seat-requires-clause-finished
take_in-seat-requires-clause-finished c = last_of (IsFinished c.args.claims.now) c.args.workers.items c.pop.new.self.items c.in-Some.last c.pop.result c.pop.ensures.items c.in-Some.is c.requires.finished

pub loop-worker-init : goal.loop-worker-init
loop-worker-init c =
    let w = c.in-Some.last in
    let items = c.pop.ensures.items in
    let is = c.in-Some.is in
    let e = c.take_in-seat.ensures in
    let f : IsFinished c.args.claims.now w = last_of (IsFinished c.args.claims.now) c.args.workers.items c.pop.new.self.items w c.pop.result items is c.requires.finished in
    let sum = total c.args.workers.items c.pop.new.self.items w c.pop.result items is in
    let share = ap (λ (s : SeatValue). s.share) e.seat in
    record {
      of = ap (λ (s : SeatValue). s.of) e.seat ∙ f.of;
      done = ap (λ (s : SeatValue). s.done) e.seat ∙ f.done;
      share = omega arith;
      finished = (All-pop (IsFinished c.args.claims.now) c.args.workers.items c.pop.new.self.items c.pop.result items c.requires.finished).0;
      len = c.take_in-seat.auto.places;
      filled = λ x h. e.filled x (sym (ap (λ (s : SeatValue). has x s.drawn) e.seat) ∙ h);
      rest = λ lines s first h. (All-pop (HasMade lines s first) c.args.workers.items c.pop.new.self.items c.pop.result items h).0;
      fit = λ lines s first h fit. e.fit lines s first (last_of (HasMade lines s first) c.args.workers.items c.pop.new.self.items w c.pop.result items is h) fit;
      crew = e.crew;
    }

pub take_in-other-requires-clause-finished : goal.take_in-other-requires-clause-finished
take_in-other-requires-clause-finished c =
    last_of (IsFinished c.args.claims.now) c.loop-worker.workers.items c.pop-in-loop-worker.new.self.items c.in-Some-pop.worker c.pop-in-loop-worker.result c.pop-in-loop-worker.ensures.items c.in-Some-pop.is c.loop-worker.invariant.finished

pub join-requires-clause-other : goal.join-requires-clause-other
join-requires-clause-other c =
    ap (λ (s : SeatValue). s.of) c.take_in-other.ensures.seat
    ∙ (last_of (IsFinished c.args.claims.now) c.loop-worker.workers.items c.pop-in-loop-worker.new.self.items c.in-Some-pop.worker c.pop-in-loop-worker.result c.pop-in-loop-worker.ensures.items c.in-Some-pop.is c.loop-worker.invariant.finished).of

pub loop-worker-preserved : goal.loop-worker-preserved
loop-worker-preserved c =
    let i = c.loop-worker.invariant in
    let w = c.in-Some-pop.worker in
    let items = c.pop-in-loop-worker.ensures.items in
    let is = c.in-Some-pop.is in
    let e = c.take_in-other.ensures in
    let join = c.join.ensures in
    let before = c.loop-worker.workers.items in
    let after = c.pop-in-loop-worker.new.self.items in
    let sum = total before after w c.pop-in-loop-worker.result items is in
    let share = ap (λ (s : SeatValue). s.share) e.seat in
    let joined = ap (λ (s : SeatValue). s.share) join in
    let was = i.share in
    record {
      of = ap (λ (s : SeatValue). s.of) join ∙ i.of;
      done = ap (λ (s : SeatValue). s.done) join ∙ (λ t. i.done t || c.take_in-other.result.done);
      share = omega arith;
      finished = (All-pop (IsFinished c.args.claims.now) before after c.pop-in-loop-worker.result items i.finished).0;
      len = c.take_in-other.auto.places ∙ i.len;
      filled = λ x h. ⊎_elim
          (λ (a : has x c.loop-worker.seat.drawn ≡ true). e.kept x (i.filled x a))
          (λ (b : has x c.take_in-other.result.drawn ≡ true). e.filled x (sym (ap (λ (s : SeatValue). has x s.drawn) e.seat) ∙ b))
          (or_cases (has x c.loop-worker.seat.drawn) (has x c.take_in-other.result.drawn)
          (sym (has_append x c.loop-worker.seat.drawn c.take_in-other.result.drawn) ∙ sym (ap (λ (s : SeatValue). has x s.drawn) join) ∙ h));
      rest = λ lines s first h. (All-pop (HasMade lines s first) before after c.pop-in-loop-worker.result items (i.rest lines s first h)).0;
      fit = λ lines s first h fit. e.fit lines s first (last_of (HasMade lines s first) before after w c.pop-in-loop-worker.result items is (i.rest lines s first h)) (i.fit lines s first h fit);
      crew = e.crew ∙ i.crew;
    }
