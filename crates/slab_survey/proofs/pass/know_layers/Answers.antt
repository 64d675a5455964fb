use Rattle.std.proofs.Common.{◌≡◌, ◌<◌, ◌+◌, ◌-◌, ◌++◌, ◌∷◌, [], List, ℕ, length, length-append, sym, ap, ◌∙◌, subst, arith}
use Rattle.std.specs.List.{range_with_len}
use Rattle.definitions.specs.Lattice.{layers}
use Rattle.lattice_counts.proofs.Sizes.{nz_small}
use Rattle.layer_cells.specs.Seats.{CellSeatValue}
use Rattle.slab_survey.specs.Layers.{Surveys}
use Rattle.slab_survey.proofs.Numbers.{few_numbers, range_up}
use Rattle.slab_survey.proofs.Passes.{begins, counts_one, has_room, knows_one, makes_one, once_known, once_made}
use Rattle.slab_survey.proofs.pass.know_layers.Goals as goal
use Rattle.slab_survey.proofs.pass.know_layers.Goals.{then-know_layer, else-know_layer}

no_layers : (a : ℕ) (v : CellSeatValue) → Surveys (range_with_len a (a - a)) v v []
no_layers a v = subst (λ (n : ℕ). Surveys (range_with_len a n) v v []) (let e : 0 ≡ a - a = omega arith in e) (begins v)

pub loop-h-init : goal.loop-h-init
loop-h-init g c = record {
  from_here = omega arith;
  to_end = c.requires.from;
  survey = ([], no_layers c.args.from c.args.seat.now, omega arith);
  made = c.requires.made;
  once = c.requires.once;
}

pub know_layer-requires-clause-seat : goal.know_layer-requires-clause-seat
know_layer-requires-clause-seat g c = c.loop-h.invariant.survey.1.of ∙ c.requires.seat

pub know_layer-requires-clause-room : goal.know_layer-requires-clause-room
know_layer-requires-clause-room g c new =
    let i = c.loop-h.invariant in
    has_room c.args.field.now.dims c.args.from c.loop-h.h c.args.to _ _ _ c.args.seat.now c.loop-h.seat i.survey.0 i.from_here c.loop-h-test.true i.survey.1 new i.survey.2 c.requires.room

pub overflow_add-made : goal.overflow_add-made
overflow_add-made g c =
    let i = c.loop-h.invariant in
    let d = c.args.field.now.dims in
    let m = rw c.if-know_layer.true at c.know_layer.ensures.made in
    let below : c.loop-h.h < layers d = let t = c.loop-h-test.true in let e = c.requires.to in omega arith in
    let o = once_made (layers d) c.loop-h.h c.loop-h.seat c.know_layer.new.seat below i.once c.know_layer.ensures.seen m.0 m.1 in
    let p = few_numbers (layers d) c.know_layer.new.seat.made o.once in
    let long : length c.know_layer.new.seat.made ≡ length c.loop-h.seat.made + 1 = ap length m.0 ∙ length-append c.loop-h.seat.made (c.loop-h.h ∷ []) in
    let s = nz_small d c.requires.dims in
    let is = i.made in
    omega arith

pub loop-h-preserved : goal.loop-h-preserved
loop-h-preserved g c =
    let i = c.loop-h.invariant in
    let k = i.survey in
    let d = c.args.field.now.dims in
    let e = c.know_layer.ensures in
    let t : c.loop-h.h < c.args.to = c.loop-h-test.true in
    let below : c.loop-h.h < layers d = let x = c.requires.to in omega arith in
    let hs : List ℕ = range_with_len c.args.from (c.loop-h.h - c.args.from) in
    let up = sym (range_up c.args.from c.loop-h.h i.from_here) in
    elim c.if-know_layer.branch [
      | then-know_layer w ↦
          let m = rw w.if-know_layer.true at e.made in
          let grown : List ℕ = k.0 ++ c.loop-h.h ∷ [] in
          let long : length c.know_layer.new.seat.made ≡ length c.loop-h.seat.made + 1 = ap length m.0 ∙ length-append c.loop-h.seat.made (c.loop-h.h ∷ []) in
          let is = w.made-is in
          let was = i.made in
          record {
            from_here = let f = i.from_here in omega arith;
            to_end = omega arith;
            survey = (
              grown,
              subst (λ (l : List ℕ). Surveys l c.args.seat.now c.know_layer.new.seat grown) up (makes_one hs c.loop-h.h c.args.seat.now c.loop-h.seat c.know_layer.new.seat k.0 k.1 e.of e.seen m.0 m.1),
              counts_one d c.loop-h.h _ _ _ k.0 m.2 k.2,
            );
            made = omega arith;
            once = once_made (layers d) c.loop-h.h c.loop-h.seat c.know_layer.new.seat below i.once e.seen m.0 m.1;
          }
      | else-know_layer w ↦
          let m = rw w.if-know_layer.false at e.made in
          record {
            from_here = let f = i.from_here in omega arith;
            to_end = omega arith;
            survey = (
              k.0,
              subst (λ (l : List ℕ). Surveys l c.args.seat.now c.know_layer.new.seat k.0) up (knows_one hs c.loop-h.h c.args.seat.now c.loop-h.seat c.know_layer.new.seat k.0 k.1 e.of e.seen m.0),
              m.1 ∙ k.2,
            );
            made = w.made-is ∙ i.made ∙ ap length (sym m.0);
            once = once_known (layers d) c.loop-h.h c.loop-h.seat c.know_layer.new.seat i.once e.seen m.0;
          }
    ]
