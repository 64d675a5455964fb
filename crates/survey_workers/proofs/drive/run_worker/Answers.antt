use Rattle.std.proofs.Common.{◌≡◌, ℕ, ◌+◌, ◌-◌, ◌<◌, ◌≤◌, ◌++◌, ◌∷◌, [], List, true, length, length-append, refl, sym, ap, ◌∙◌, subst, arith}
use Rattle.list_words.specs.Words.{has}
use Rattle.list_words.proofs.Lists.{has_last}
use Rattle.slab_claims.specs.Seats.{ClaimsValue, SeatValue}
use Rattle.slab_survey.specs.Workers.{WorkerValue}
use Rattle.slab_survey.specs.Layers.{counts_of_layers, slab_layers}
use Rattle.slab_survey.proofs.Reaches.{counts_length}
use Rattle.survey_workers.specs.Going.{IsGoing}
use Rattle.survey_workers.proofs.Going.{begins, claims_on, follows, goes_on, has_room, ledger_room, short_more}
use Rattle.survey_workers.proofs.drive.run_worker.Goals as goal

-- the slab that was drawn is one
drawn_slab : (a : ClaimsValue) (s : SeatValue) (n m : ℕ) → s.of ≡ a → a.slabs ≡ m → n < s.of.slabs → n < m
drawn_slab a s n m of is lt = let e : s.of.slabs ≡ a.slabs = ap (λ (x : ClaimsValue). x.slabs) of in omega arith

pub survey_slab-requires-clause-room : goal.survey_slab-requires-clause-room
survey_slab-requires-clause-room g c =
    let i = c.loop-slab.invariant in
    let r = c.in-Slab.ensures.rest in
    let a = c.in-Slab.ensures.claim in
    let d = c.args.field.now.dims in
    let lt = drawn_slab c.args.claims.now c.loop-slab.worker.claims c.in-Slab.slab _ i.going.of c.requires.slabs a.0 in
    let next = follows c.loop-slab.next c.in-Slab.slab c.loop-slab.worker.claims.drawn i.last a.1 in
    let counts : length c.claim.new.self.counts ≡ length c.loop-slab.worker.counts = ap (λ (w : WorkerValue g.row.L.Denot). length w.counts) r in
    let room : c.claim.new.self.room ≡ c.loop-slab.worker.room = ap (λ (w : WorkerValue g.row.L.Denot). w.room) r in
    let short = i.short in
    let most = i.going.room in
    let h = has_room d c.args.layout.now.slab c.loop-slab.next c.in-Slab.slab c.loop-slab.worker.room (length c.loop-slab.worker.counts) c.requires.layout.low lt next short most in
    fits _ _ _ _ _ counts room h
  where
    fits : (n m len room r : ℕ) → n ≡ m → room ≡ r → m + len ≤ r → n + len ≤ room
    fits n m len room r a b c = omega arith

pub survey_slab-requires-clause-ledger : goal.survey_slab-requires-clause-ledger
survey_slab-requires-clause-ledger g c =
    let i = c.loop-slab.invariant in
    let r = c.in-Slab.ensures.rest in
    let a = c.in-Slab.ensures.claim in
    let d = c.args.field.now.dims in
    let seat = a.2 in
    let lt = drawn_slab c.args.claims.now c.loop-slab.worker.claims c.in-Slab.slab _ i.going.of c.requires.slabs a.0 in
    let on = claims_on g.L.Ledger.count d c.args.layout.now.slab c.args.claims.now c.args.cells.now c.args.worker.now c.loop-slab.worker c.claim.new.self c.loop-slab.worker.claims.drawn i.going r (ap (λ (s : SeatValue). s.of) seat) (ap (λ (s : SeatValue). s.share) seat) in
    ledger_room d c.args.layout.now.slab c.in-Slab.slab _ _ _ c.claim.new.self.cells c.requires.layout.low lt on.once on.ledger c.requires.ledger

pub loop-slab-init : goal.loop-slab-init
loop-slab-init g c =
    let r = c.requires.ready in
    record {
      going = begins g.L.Ledger.count c.args.field.now.dims c.args.layout.now.slab c.args.claims.now c.args.cells.now c.args.worker.now r;
      not_done = r.not_done;
      below = omega arith;
      last = λ some. absurd (omega arith);
      short = let z : length c.args.worker.now.counts ≡ 0 = ap length r.no_counts in omega arith;
    }

pub loop-slab-smaller : goal.loop-slab-smaller
loop-slab-smaller g c =
    let i = c.loop-slab.invariant in
    let a = c.in-Slab.ensures.claim in
    let lt = drawn_slab c.args.claims.now c.loop-slab.worker.claims c.in-Slab.slab _ i.going.of refl a.0 in
    let next = follows c.loop-slab.next c.in-Slab.slab c.loop-slab.worker.claims.drawn i.last a.1 in
    let from = c.from-next.ensures in
    omega arith

pub loop-slab-preserved : goal.loop-slab-preserved
loop-slab-preserved g c =
    let i = c.loop-slab.invariant in
    let r = c.in-Slab.ensures.rest in
    let a = c.in-Slab.ensures.claim in
    let d = c.args.field.now.dims in
    let t = c.args.layout.now.slab in
    let n : ℕ = c.in-Slab.slab in
    let seat = a.2 in
    let e = c.survey_slab.ensures in
    let lt = drawn_slab c.args.claims.now c.loop-slab.worker.claims n _ i.going.of c.requires.slabs a.0 in
    let below = drawn_slab c.args.claims.now c.loop-slab.worker.claims n _ i.going.of refl a.0 in
    let next = follows c.loop-slab.next n c.loop-slab.worker.claims.drawn i.last a.1 in
    let from = c.from-next.ensures in
    let on = claims_on g.L.Ledger.count d t c.args.claims.now c.args.cells.now c.args.worker.now c.loop-slab.worker c.claim.new.self c.loop-slab.worker.claims.drawn i.going r (ap (λ (s : SeatValue). s.of) seat) (ap (λ (s : SeatValue). s.share) seat) in
    let going = goes_on g.L.Ledger.count d t n c.args.claims.now c.args.cells.now c.args.worker.now c.claim.new.self c.survey_slab.new.worker c.loop-slab.worker.claims.drawn e.survey.0 on e.claims e.survey.1 e.survey.2 e.counts e.room e.once in
    let drawn : c.survey_slab.new.worker.claims.drawn ≡ c.loop-slab.worker.claims.drawn ++ n ∷ [] = ap (λ (s : SeatValue). s.drawn) (e.claims ∙ seat) in
    let counts : length c.claim.new.self.counts ≡ length c.loop-slab.worker.counts = ap (λ (w : WorkerValue g.row.L.Denot). length w.counts) r in
    let long : length c.survey_slab.new.worker.counts ≡ length c.claim.new.self.counts + length (counts_of_layers c.args.cells.now.subject (slab_layers d t n)) = ap length e.counts ∙ length-append c.claim.new.self.counts (counts_of_layers c.args.cells.now.subject (slab_layers d t n)) in
    let len = counts_length c.args.cells.now.subject (slab_layers d t n) in
    record {
      going = subst (λ (l : List ℕ). IsGoing g.L.Ledger.count d t c.args.claims.now c.args.cells.now c.args.worker.now c.survey_slab.new.worker l) (sym drawn) going;
      not_done = ap (λ (s : SeatValue). s.done) (e.claims ∙ seat) ∙ i.not_done;
      below = omega arith;
      last = λ _. let m : c.from-next.result + 1 - 1 ≡ n = omega arith in subst (λ (k : ℕ). has k c.survey_slab.new.worker.claims.drawn ≡ true) (sym m) (ap (has n) drawn ∙ has_last n c.loop-slab.worker.claims.drawn);
      short = short_more d t c.loop-slab.next n (length c.loop-slab.worker.counts) (length c.survey_slab.new.worker.counts) (c.from-next.result + 1) c.requires.layout.low lt next i.short (sums _ _ _ _ _ long counts len) (omega arith);
    }
  where
    sums : (after now was more len : ℕ) → after ≡ now + more → now ≡ was → more ≡ len → after ≡ was + len
    sums after now was more len a b c = omega arith
