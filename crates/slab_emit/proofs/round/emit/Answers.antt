use Rattle.std.proofs.Common.{rules, ◌≡◌, arith, length, subst, sym, ap, ◌∙◌}
use Rattle.list_words.specs.Words.{EachOnce}
use Rattle.list_words.proofs.Lists.{each_stands}
use Rattle.slab_claims.specs.Seats.{DrawnValue}
use Rattle.slab_emit.specs.Workers.{FitPlaces, IsFilled}
use Rattle.crews.proofs.Workers.{written}
use Rattle.slab_emit.proofs.Placing.{fit_none}
use Rattle.slab_emit.proofs.round.emit.Goals as goal

pub gather-seat-requires-clause-len : goal.gather-seat-requires-clause-len
gather-seat-requires-clause-len g c = (ap length c.as_mut_slice.ensures.value ∙ c.in_ok-places.ensures.len) ∙ sym c.in-Ok.ensures.claims.0

pub close-requires-clause-whole : goal.close-requires-clause-whole
close-requires-clause-whole g c = c.gather-seat.ensures.share ∙ c.run_to_end-done.ensures.shares ∙ c.in_ok-hired.ensures.shares ∙ sym c.in-Ok.ensures.claims.1

pub collect-requires : goal.collect-requires
collect-requires g c = record {
  filled = λ x.
      let long : length c.gather-seat.new.places ≡ length c.as_mut_slice.result.now = c.gather-seat.auto.places in
      let is : length c.as_mut_slice.result.now ≡ length c.in_ok-places.places.items = ap length c.as_mut_slice.ensures.value in
      let count = c.in_ok-places.ensures.len in
      let slabs = c.in-Ok.ensures.claims.0 in
      let l : c.in_ok-places.places.len ≡ length c.in_ok-places.places.items = let o = c.in_ok-places.places.ok in search rules in
      let items = written c.gather-seat.new.places c.in_ok-places.places.items c.in_ok-places.places.len (omega arith) (omega arith) in
      let once : EachOnce c.in-Ok.claims.slabs c.gather-seat.result.drawn = subst (λ (d : DrawnValue). EachOnce d.slabs d.list) c.close.ensures.drawn c.close.ensures.each_once in
      subst (λ l. IsFilled l x) (sym (c.as_mut_slice-2.ensures.value ∙ items)) (λ d lt. c.gather-seat.ensures.filled x (each_stands c.in-Ok.claims.slabs x c.gather-seat.result.drawn once (omega arith)) d lt);
}

pub returns-clause-parts : goal.returns-clause-parts
returns-clause-parts g c =
    let fit = c.gather-seat.ensures.fit c.args.lines c.args.source.now c.args.first c.run_to_end-done.ensures.made
    (subst (FitPlaces c.args.lines c.args.source.now c.args.first) (sym c.as_mut_slice.ensures.value) (fit_none c.args.lines c.args.source.now c.args.first c.in_ok-places.places.items c.in_ok-places.ensures.none))
    in
    let long : length c.gather-seat.new.places ≡ length c.as_mut_slice.result.now = c.gather-seat.auto.places in
    let is : length c.as_mut_slice.result.now ≡ length c.in_ok-places.places.items = ap length c.as_mut_slice.ensures.value in
    let l : c.in_ok-places.places.len ≡ length c.in_ok-places.places.items = let o = c.in_ok-places.places.ok in search rules in
    let items = written c.gather-seat.new.places c.in_ok-places.places.items c.in_ok-places.places.len (omega arith) (omega arith) in
    c.collect.ensures.parts c.args.lines c.args.source.now c.args.first (subst (FitPlaces c.args.lines c.args.source.now c.args.first) (sym (c.as_mut_slice-2.ensures.value ∙ items)) fit)
