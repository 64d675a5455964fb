use Rattle.std.proofs.Common.{rules, ◌≡◌, ◌≤◌, ◌+◌, ◌-◌, ◌<◌, ◌++◌, ◌∷◌, [], ℕ, length, length-append, vec_len, All, arith, ap, subst, sym, ◌∙◌}
use Rattle.std.proofs.lemmas.List.{map-append}
use Rattle.slab_claims.specs.Seats.{SeatValue}
use Rattle.slab_emit.specs.declared.worker.Made.{Made}
use Rattle.slab_emit.specs.Workers.{IsMade, numbers_of}
use Rattle.std.proofs.lemmas.List.Elements.{All-push}
use Rattle.slab_emit.proofs.Drawing.{follows}
use Rattle.slab_emit.proofs.worker.run_worker.Goals as goal

pub push_reserved-requires : goal.push_reserved-requires
push_reserved-requires g c =
    let i = c.loop-at.invariant in
    let n : ℕ = c.in-Slab.at in
    let a = c.in-Slab.ensures in
    let next : c.loop-at.next ≤ n = follows c.loop-at.next n c.loop-at.worker.seat.drawn i.last a.1 in
    let len : length c.loop-at.worker.made.items ≡ vec_len c.loop-at.worker.made = search rules in
    let few = i.few in
    let room = i.room in
    let slabs : n < c.args.claims.now.slabs = subst (λ m. n < m) (ap (λ o. o.slabs) i.of) a.0 in
    omega arith

pub loop-at-smaller : goal.loop-at-smaller
loop-at-smaller g c =
    let i = c.loop-at.invariant in
    let n : ℕ = c.in-Slab.at in
    let a = c.in-Slab.ensures in
    let next : c.loop-at.next ≤ n = follows c.loop-at.next n c.loop-at.worker.seat.drawn i.last a.1 in
    let slabs : n < c.args.claims.now.slabs = subst (λ m. n < m) (ap (λ o. o.slabs) i.of) a.0 in
    let e = c.from-next.ensures in
    omega arith

pub loop-at-preserved : goal.loop-at-preserved
loop-at-preserved g c =
    let i = c.loop-at.invariant in
    let n : ℕ = c.in-Slab.at in
    let a = c.in-Slab.ensures in
    let e = a.2 in
    let next : c.loop-at.next ≤ n = follows c.loop-at.next n c.loop-at.worker.seat.drawn i.last a.1 in
    let slabs : n < c.args.claims.now.slabs = subst (λ m. n < m) (ap (λ o. o.slabs) i.of) a.0 in
    let items = c.push_reserved.ensures.items in
    let at = c.made_of-made.ensures.at in
    let from = c.from-next.ensures in
    let long : length c.push_reserved.new.self.items ≡ length c.loop-at.worker.made.items + 1 = ap length items ∙ length-append c.loop-at.worker.made.items (c.made_of-made.result ∷ []) in
    let back : c.from-next.result + 1 - 1 ≡ n = omega arith in
    record {
      of = ap (λ (s : SeatValue). s.of) e ∙ i.of;
      share = ap (λ (s : SeatValue). s.share) e ∙ i.share;
      going = ap (λ (s : SeatValue). s.done) e ∙ i.going;
      drawn =
          ap numbers_of items ∙ map-append (λ (m : Made). m.at) c.loop-at.worker.made.items (c.made_of-made.result ∷ [])
          ∙ (λ t. i.drawn t ++ at t ∷ [])
          ∙ sym (ap (λ (s : SeatValue). s.drawn) e);
      right =
          subst (All (IsMade c.args.lines c.args.source.now c.args.first)) (sym items)
          (All-push (IsMade c.args.lines c.args.source.now c.args.first) c.loop-at.worker.made.items c.made_of-made.result i.right c.made_of-made.ensures.made);
      under =
          subst (All (λ m. m.at < c.args.claims.now.slabs)) (sym items)
          (All-push (λ m. m.at < c.args.claims.now.slabs) c.loop-at.worker.made.items c.made_of-made.result i.under (subst (λ k. k < c.args.claims.now.slabs) (sym at) slabs));
      room = (let r = i.room in let p = c.push_reserved.ensures.capacity in omega arith);
      few = (let f = i.few in omega arith);
      below = omega arith;
      last = λ some. (c.loop-at.worker.seat.drawn, ap (λ (s : SeatValue). s.drawn) e ∙ ap (λ (k : ℕ). c.loop-at.worker.seat.drawn ++ k ∷ []) (sym back));
    }
