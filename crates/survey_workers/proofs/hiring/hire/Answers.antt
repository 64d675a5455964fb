use Rattle.std.proofs.Common.{◌≡◌, ◌<◌, ◌+◌, ◌-◌, ◌^◌, ◌++◌, ◌∷◌, [], ℕ, List, All, false, append_assoc, length, length-append, sym, ap, ◌∙◌, subst, arith}
use Rattle.std.specs.declared.option.Option.{Option}
use Rattle.std.specs.Option.{option_to_list}
use Rattle.std.proofs.lemmas.List.Elements.{All-push}
use Rattle.std.proofs.lemmas.List.Sums.{sum_by_push}
use Rattle.definitions.specs.Lattice.{vertices}
use Rattle.slab_claims.specs.Seats.{SeatValue}
use Rattle.layer_cells.specs.Answers.{seat_given}
use Rattle.slab_survey.specs.Workers.{WorkerValue}
use Rattle.survey_workers.specs.Going.{ledgers_back, shares_of, IsReady}
use Rattle.survey_workers.proofs.Shares.{is_ready, last_of_all, ledgers_push, rest_of_all}
use Rattle.survey_workers.proofs.hiring.hire.Goals as goal

pub loop-claim_seat-preserved : goal.loop-claim_seat-preserved
loop-claim_seat-preserved g c =
    let i = c.loop-claim_seat.invariant in
    let d = c.args.cells.now.subject.field.dims in
    let x : g.row.L.Denot = c.in-Some.ledger in
    let w : WorkerValue g.row.L.Denot = c.in_ok-new.field-0 in
    let items : c.loop-claim_seat.ledgers.items ≡ c.pop.new.self.items ++ x ∷ [] = c.pop.ensures.items ∙ ap (λ (o : Option g.row.L.Denot). c.pop.new.self.items ++ option_to_list o) c.in-Some.is in
    let long : length c.loop-claim_seat.ledgers.items ≡ length c.pop.new.self.items + 1 = ap length items ∙ length-append c.pop.new.self.items (x ∷ []) in
    let less : length c.loop-claim_seat.ledgers.items - 1 ≡ length c.pop.new.self.items = omega arith in
    let all = subst (λ (l : List g.row.L.Denot). All (λ y. g.L.Ledger.count y + length (vertices c.args.cells.now.subject.field.dims) < 2 ^ 64) l) items i.ledgers in
    let kept = c.split-claim.ensures.kept in
    let given = c.split-claim.ensures.given in
    let cell = c.split-cell.ensures in
    let n = c.in_ok-new.ensures.parts in
    let claim : c.split-claim.result ≡ record { of = c.args.claims.now; share = 1; drawn = []; done = false } = given ∙ ap (λ (s : SeatValue). record s { share = 1; drawn = [] }) i.claim in
    let told : c.split-cell.result ≡ record { of = c.args.cells.now; seen = []; down = []; put = []; made = [] } = cell.given ∙ ap seat_given i.cell in
    let ready = is_ready d c.args.claims.now c.args.cells.now w c.split-claim.result c.split-cell.result c.args.room 1 n.1 n.2 n.4 c.in_ok-new.ensures.room c.requires.room claim told in
    let paid = subst (λ (y : g.row.L.Denot). g.L.Ledger.count y + length (vertices c.args.cells.now.subject.field.dims) < 2 ^ 64) (sym n.3) (last_of_all (λ y. g.L.Ledger.count y + length (vertices c.args.cells.now.subject.field.dims) < 2 ^ 64) c.pop.new.self.items x all) in
    let more : c.push_reserved.new.self.items ≡ c.loop-claim_seat.workers.items ++ w ∷ [] = c.push_reserved.ensures.items in
    let wide : length c.push_reserved.new.self.items ≡ length c.loop-claim_seat.workers.items + 1 = ap length more ∙ length-append c.loop-claim_seat.workers.items (w ∷ []) in
    let sum : shares_of c.push_reserved.new.self.items ≡ shares_of c.loop-claim_seat.workers.items + w.claims.share = ap shares_of more ∙ sum_by_push (λ (v : WorkerValue g.row.L.Denot). v.claims.share) c.loop-claim_seat.workers.items w in
    let one : w.claims.share ≡ 1 = ap (λ (s : SeatValue). s.share) (n.1 ∙ claim) in
    let back : ledgers_back c.push_reserved.new.self.items ≡ x ∷ ledgers_back c.loop-claim_seat.workers.items = ap ledgers_back more ∙ ledgers_push c.loop-claim_seat.workers.items w ∙ ap (λ (y : g.row.L.Denot). y ∷ ledgers_back c.loop-claim_seat.workers.items) n.3 in
    record {
      claim = kept ∙ ap (λ (s : SeatValue). record s { share = s.share - 1 }) i.claim ∙ ap (λ (k : ℕ). record { of = c.args.claims.now; share = k; drawn = []; done = false }) less;
      cell = cell.kept ∙ i.cell;
      some = let t = c.loop-claim_seat-test.true in let l = c.len-in-loop-claim_seat.ensures in omega arith;
      few = let f = i.few in omega arith;
      ledgers = rest_of_all (λ y. g.L.Ledger.count y + length (vertices c.args.cells.now.subject.field.dims) < 2 ^ 64) c.pop.new.self.items x all;
      ready = subst (λ (l : List (WorkerValue g.row.L.Denot)). All (λ v. IsReady c.args.cells.now.subject.field.dims c.args.claims.now c.args.cells.now v × (g.L.Ledger.count v.ledger + length (vertices c.args.cells.now.subject.field.dims) < 2 ^ 64)) l) (sym more)
          (All-push (λ (v : WorkerValue g.row.L.Denot). IsReady c.args.cells.now.subject.field.dims c.args.claims.now c.args.cells.now v × (g.L.Ledger.count v.ledger + length (vertices c.args.cells.now.subject.field.dims) < 2 ^ 64)) c.loop-claim_seat.workers.items w i.ready (ready, paid));
      total = let t = i.total in omega arith;
      long = let l = i.long in omega arith;
      order = ap (λ (l : List g.row.L.Denot). c.pop.new.self.items ++ l) back ∙ sym (append_assoc c.pop.new.self.items (x ∷ []) (ledgers_back c.loop-claim_seat.workers.items)) ∙ ap (λ (l : List g.row.L.Denot). l ++ ledgers_back c.loop-claim_seat.workers.items) (sym items) ∙ i.order;
      room = let r = i.room in let k = c.push_reserved.ensures.capacity in omega arith;
    }

pub returns-clause-ready : goal.returns-clause-ready
returns-clause-ready g c =
    let i = c.loop-claim_seat.invariant in
    let d = c.args.cells.now.subject.field.dims in
    let x : g.row.L.Denot = c.in-Some-pop.ledger in
    let w : WorkerValue g.row.L.Denot = c.in_ok-new-2.field-0 in
    let items : c.loop-claim_seat.ledgers.items ≡ c.pop-2.new.self.items ++ x ∷ [] = c.pop-2.ensures.items ∙ ap (λ (o : Option g.row.L.Denot). c.pop-2.new.self.items ++ option_to_list o) c.in-Some-pop.is in
    let all = subst (λ (l : List g.row.L.Denot). All (λ y. g.L.Ledger.count y + length (vertices c.args.cells.now.subject.field.dims) < 2 ^ 64) l) items i.ledgers in
    let n = c.in_ok-new-2.ensures.parts in
    let ready = is_ready d c.args.claims.now c.args.cells.now w c.loop-claim_seat.claim_seat c.loop-claim_seat.cell_seat c.args.room _ n.1 n.2 n.4 c.in_ok-new-2.ensures.room c.requires.room i.claim i.cell in
    let paid = subst (λ (y : g.row.L.Denot). g.L.Ledger.count y + length (vertices c.args.cells.now.subject.field.dims) < 2 ^ 64) (sym n.3) (last_of_all (λ y. g.L.Ledger.count y + length (vertices c.args.cells.now.subject.field.dims) < 2 ^ 64) c.pop-2.new.self.items x all) in
    let more : c.push_reserved-2.new.self.items ≡ c.loop-claim_seat.workers.items ++ w ∷ [] = c.push_reserved-2.ensures.items in
    subst (λ (l : List (WorkerValue g.row.L.Denot)). All (λ v. IsReady c.args.cells.now.subject.field.dims c.args.claims.now c.args.cells.now v × (g.L.Ledger.count v.ledger + length (vertices c.args.cells.now.subject.field.dims) < 2 ^ 64)) l) (sym more)
    (All-push (λ (v : WorkerValue g.row.L.Denot). IsReady c.args.cells.now.subject.field.dims c.args.claims.now c.args.cells.now v × (g.L.Ledger.count v.ledger + length (vertices c.args.cells.now.subject.field.dims) < 2 ^ 64)) c.loop-claim_seat.workers.items w i.ready (ready, paid))
