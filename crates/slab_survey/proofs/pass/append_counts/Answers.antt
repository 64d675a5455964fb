use Rattle.std.proofs.Common.{◌≡◌, ◌≤◌, ◌+◌, ◌-◌, ◌++◌, ◌∷◌, [], List, ℕ, length, length-append, append_assoc, true, sym, ap, ◌∙◌, subst, arith}
use Rattle.std.specs.List.{range_with_len}
use Rattle.std.proofs.lemmas.List.FromFn.{map-range_with_len_more}
use Rattle.definitions.specs.States.{states}
use Rattle.list_words.specs.Words.{has}
use Rattle.layer_cells.specs.Seats.{CellSeatValue, Subject}
use Rattle.vertex_numbers.specs.declared.LayerCount.{LayerCount}
use Rattle.vertex_numbers.specs.Counts.{count_of_layer}
use Rattle.vertex_numbers.specs.Sources.{KnowsAround}
use Rattle.slab_survey.specs.Layers.{counts_of_layers}
use Rattle.slab_survey.proofs.pass.append_counts.Goals as goal

one_more : (a : Subject) (from h : ℕ) (count : LayerCount) (is items : List LayerCount) → from ≤ h → count ≡ count_of_layer a.field.dims (states a.field a.shares) h → items ≡ is ++ counts_of_layers a (range_with_len from (h - from)) → items ++ count ∷ [] ≡ is ++ counts_of_layers a (range_with_len from (h + 1 - from))
one_more a from h count is items le right e =
    let more : counts_of_layers a (range_with_len from (h + 1 - from)) ≡ counts_of_layers a (range_with_len from (h - from)) ++ count_of_layer a.field.dims (states a.field a.shares) h ∷ [] =
    ap (λ (n : ℕ). counts_of_layers a (range_with_len from n)) (let k : h + 1 - from ≡ h - from + 1 = omega arith in k) ∙ map-range_with_len_more (count_of_layer a.field.dims (states a.field a.shares)) from (h - from) h (omega arith)
    in
    (λ i. e i ++ right i ∷ []) ∙ append_assoc is (counts_of_layers a (range_with_len from (h - from))) (count_of_layer a.field.dims (states a.field a.shares) h ∷ []) ∙ ap (λ (l : List LayerCount). is ++ l) (sym more)

pub count_layer-count-requires-clause-seat : goal.count_layer-count-requires-clause-seat
count_layer-count-requires-clause-seat c = ap (λ (s : CellSeatValue). s.of) c.loop-h.invariant.same ∙ c.requires.seat

pub count_layer-count-requires-clause-known : goal.count_layer-count-requires-clause-known
count_layer-count-requires-clause-known c =
    subst (λ (s : CellSeatValue). KnowsAround c.args.dims (λ g. has g s.seen ≡ true) c.loop-h.h) (sym c.loop-h.invariant.same) (c.requires.known c.loop-h.h c.loop-h.invariant.from_here c.loop-h-test.true)

pub loop-h-preserved : goal.loop-h-preserved
loop-h-preserved c =
    let i = c.loop-h.invariant in
    let p = c.push_reserved.ensures in
    let long : length c.push_reserved.new.self.items ≡ length c.loop-h.counts.items + 1 = ap length p.items ∙ length-append c.loop-h.counts.items _ in
    let was = i.long in
    record {
      from_here = let f = i.from_here in omega arith;
      to_end = let t = c.loop-h-test.true in omega arith;
      same = c.count_layer-count.ensures.same ∙ i.same;
      counts = p.items ∙ one_more _ c.args.from c.loop-h.h _ _ _ i.from_here c.count_layer-count.ensures.count i.counts;
      long = let f = i.from_here in omega arith;
      room = p.capacity ∙ i.room;
    }
