use Rattle.std.proofs.Common.{rules, ◌≡◌, ◌≤◌, ◌+◌, ◌++◌, ◌∷◌, [], ℕ, List, All, append_assoc, length, length-append, sym, ap, ◌∙◌, subst, arith}
use Rattle.std.specs.declared.option.Option.{Option}
use Rattle.std.specs.Option.{option_to_list}
use Rattle.std.specs.List.{concat}
use Rattle.std.proofs.lemmas.List.Sums.{sum_by_push}
use Rattle.definitions.specs.Lattice.{layers}
use Rattle.lattice_counts.proofs.Sizes.{nz_small}
use Rattle.definitions.specs.declared.Dims.{Dims}
use Rattle.definitions.specs.Lattice.{IsDims}
use Rattle.slab_claims.specs.Seats.{SeatValue}
use Rattle.layer_cells.specs.Seats.{CellSeatValue}
use Rattle.vertex_numbers.specs.declared.LayerCount.{LayerCount}
use Rattle.slab_survey.specs.Workers.{WorkerValue}
use Rattle.slab_survey.proofs.Numbers.{few_numbers}
use Rattle.survey_workers.specs.Going.{ledgers_back, made_back, shares_of, IsEnded}
use Rattle.survey_workers.specs.Tables.{with_counts}
use Rattle.survey_workers.proofs.Gathers.{begins_with, counts_below}
use Rattle.survey_workers.proofs.Shares.{last_of_all, ledgers_push, made_push, rest_of_all}
use Rattle.survey_workers.proofs.gathering.gather.Goals as goal

few_layers : (d e : Dims) → IsDims d → d ≡ e → layers e ≤ 33554432
few_layers d e is same = let s = nz_small d is in let n : layers d ≡ layers e = ap layers same in omega arith

pub fill-requires : goal.fill-requires
fill-requires g c =
    let p = c.into_parts-claim_seat.ensures.parts in
    counts_below c.args.cells.now.subject c.args.cells.now.subject.field.dims c.args.layout.now.slab c.args.last.claims.drawn c.args.table.items c.as_slice.result.now c.requires.table (c.as_slice.ensures.value ∙ p.3 ∙ c.requires.last.counts)

pub loop-worker-init : goal.loop-worker-init
loop-worker-init g c =
    let p = c.into_parts-claim_seat.ensures.parts in
    let m = c.into_parts-claim_seat.ensures.made in
    let ws : List (WorkerValue g.row.L.Denot) = c.args.workers.items in
    let d = c.args.cells.now.subject.field.dims in
    let back : c.push_reserved.new.self.items ≡ c.args.last.ledger ∷ [] = c.push_reserved.ensures.items ∙ (λ i. c.requires.back i ++ p.2 i ∷ []) in
    let table = c.fill.ensures ∙ ap (λ (l : List LayerCount). with_counts c.args.table.items l) (c.as_slice.ensures.value ∙ p.3) in
    record {
      workers = c.requires.workers;
      gathered = begins_with c.args.layout.now.slab c.args.claims.now c.args.cells.now _ c.args.table.items c.args.last c.requires.last p.0 p.1 m table c.requires.table;
      share = let s : c.into_parts-claim_seat.result.claims.share ≡ c.args.last.claims.share = ap (λ (s : SeatValue). s.share) p.0 in omega arith;
      ledgers = ap (λ (l : List g.row.L.Denot). l ++ ledgers_back ws) back;
      layers_made = ap (λ (s : CellSeatValue). s.made ++ concat (made_back ws)) p.1;
      few =
          let f = few_numbers (layers d) c.args.last.cells.made c.requires.last.once.once in
          let l = few_layers c.args.layout.now.dims d c.requires.layout.sizes c.requires.sizes in
          let n = c.requires.few in
          omega arith;
      room =
          let one : length c.push_reserved.new.self.items ≡ 1 = ap length back in
          let r = c.requires.room in
          let k = c.push_reserved.ensures.capacity in
          let o : c.args.workers.len ≡ length c.args.workers.items = search rules in
          omega arith;
    }

pub take_in-ledger-requires-clause-worker : goal.take_in-ledger-requires-clause-worker
take_in-ledger-requires-clause-worker g c =
    let w : WorkerValue g.row.L.Denot = c.in-Some.worker in
    let items : c.loop-worker.workers.items ≡ c.pop.new.self.items ++ w ∷ [] = c.pop.ensures.items ∙ ap (λ (o : Option (WorkerValue g.row.L.Denot)). c.pop.new.self.items ++ option_to_list o) c.in-Some.is in
    last_of_all (λ (v : WorkerValue g.row.L.Denot). IsEnded c.args.cells.now.subject.field.dims c.args.layout.now.slab c.args.claims.now c.args.cells.now v) c.pop.new.self.items w
    (subst (λ (l : List (WorkerValue g.row.L.Denot)). All (λ v. IsEnded c.args.cells.now.subject.field.dims c.args.layout.now.slab c.args.claims.now c.args.cells.now v) l) items c.loop-worker.invariant.workers)

pub loop-worker-preserved : goal.loop-worker-preserved
loop-worker-preserved g c =
    let i = c.loop-worker.invariant in
    let w : WorkerValue g.row.L.Denot = c.in-Some.worker in
    let ws : List (WorkerValue g.row.L.Denot) = c.pop.new.self.items in
    let d = c.args.cells.now.subject.field.dims in
    let items : c.loop-worker.workers.items ≡ c.pop.new.self.items ++ w ∷ [] = c.pop.ensures.items ∙ ap (λ (o : Option (WorkerValue g.row.L.Denot)). c.pop.new.self.items ++ option_to_list o) c.in-Some.is in
    let t = c.take_in-ledger.ensures in
    let total : shares_of c.loop-worker.workers.items ≡ shares_of c.pop.new.self.items + w.claims.share = ap shares_of items ∙ sum_by_push (λ (v : WorkerValue g.row.L.Denot). v.claims.share) c.pop.new.self.items w in
    let long : length c.loop-worker.workers.items ≡ length c.pop.new.self.items + 1 = ap length items ∙ length-append c.pop.new.self.items (w ∷ []) in
    let back : c.push_reserved-in-Some.new.self.items ≡ c.loop-worker.back.items ++ w.ledger ∷ [] = c.push_reserved-in-Some.ensures.items ∙ ap (λ (x : g.row.L.Denot). c.loop-worker.back.items ++ x ∷ []) t.ledger in
    record {
      workers = rest_of_all (λ (v : WorkerValue g.row.L.Denot). IsEnded c.args.cells.now.subject.field.dims c.args.layout.now.slab c.args.claims.now c.args.cells.now v) c.pop.new.self.items w
          (subst (λ (l : List (WorkerValue g.row.L.Denot)). All (λ v. IsEnded c.args.cells.now.subject.field.dims c.args.layout.now.slab c.args.claims.now c.args.cells.now v) l) items i.workers);
      gathered = t.gathered;
      share = let s = t.share in let was = i.share in omega arith;
      ledgers =
          ap (λ (l : List g.row.L.Denot). l ++ ledgers_back ws) back ∙ append_assoc c.loop-worker.back.items (w.ledger ∷ []) (ledgers_back ws)
          ∙ ap (λ (l : List g.row.L.Denot). c.loop-worker.back.items ++ l) (sym (ledgers_push ws w) ∙ ap ledgers_back (sym items)) ∙ i.ledgers;
      layers_made =
          ap (λ (l : List ℕ). l ++ concat (made_back ws)) t.layers_made ∙ append_assoc c.loop-worker.all.cells.made w.cells.made (concat (made_back ws))
          ∙ ap (λ (l : List (List ℕ)). c.loop-worker.all.cells.made ++ concat l) (sym (made_push ws w) ∙ ap made_back (sym items)) ∙ i.layers_made;
      few =
          let f = t.few in
          let l = few_layers c.args.layout.now.dims d c.requires.layout.sizes c.requires.sizes in
          let was = i.few in
          omega arith;
      room =
          let r = i.room in
          let b : length c.push_reserved-in-Some.new.self.items ≡ length c.loop-worker.back.items + 1 = ap length back ∙ length-append c.loop-worker.back.items (w.ledger ∷ []) in
          let k = c.push_reserved-in-Some.ensures.capacity in
          omega arith;
    }
