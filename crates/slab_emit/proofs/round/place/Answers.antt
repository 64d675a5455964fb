use Rattle.std.proofs.Common.{◌≡◌, inl, inr, ℕ, [], ◌∷◌, ◌++◌, true, ◌<◌, IfSome, length, refl, subst, sym, ap, ◌∙◌, ⊎_elim, Option}
use Rattle.std.specs.Option.{option_to_list}
use Rattle.std.proofs.lemmas.List.{length-set, map-append}
use Rattle.std.proofs.lemmas.List.Elements.{All-pop}
use Rattle.list_words.specs.Words.{has}
use Rattle.list_words.proofs.Lists.{has_pushed}
use Rattle.slab_emit.specs.declared.worker.Made.{Made}
use Rattle.slab_emit.specs.Workers.{FitPlaces, IsFilled, IsMade, numbers_of}
use Rattle.slab_emit.proofs.Placing.{filled_here, filled_still, fit_set}
use Rattle.slab_emit.proofs.round.place.Goals as goal

pub fill-requires : goal.fill-requires
fill-requires c =
    let p = All-pop (λ (m : Made). m.at < length c.args.places.now) c.loop-one.made.items c.pop.new.self.items c.pop.result c.pop.ensures.items c.loop-one.invariant.under in
    subst (λ n. c.in-Some.one.at < n) (sym c.loop-one.invariant.len) (subst (λ (r : Option Made). IfSome r (λ m. m.at < length c.args.places.now)) c.in-Some.is p.1)

pub loop-one-init : goal.loop-one-init
loop-one-init c = record { len = refl; under = c.requires; filled = λ x e. inl e; kept = λ x h. h; rest = λ lines s first h. h; fit = λ lines s first h fit. fit }

pub loop-one-preserved : goal.loop-one-preserved
loop-one-preserved c =
    let i = c.loop-one.invariant in
    let n = length c.args.places.now in
    let one = c.in-Some.one in
    let p = All-pop (λ (m : Made). m.at < n) c.loop-one.made.items c.pop.new.self.items c.pop.result c.pop.ensures.items i.under in
    let lt : one.at < length c.loop-one.places = subst (λ k. one.at < k) (sym i.len) (subst (λ (r : Option Made). IfSome r (λ m. m.at < n)) c.in-Some.is p.1) in
    let items : c.loop-one.made.items ≡ c.pop.new.self.items ++ one ∷ [] = c.pop.ensures.items ∙ ap (λ (r : Option Made). c.pop.new.self.items ++ option_to_list r) c.in-Some.is in
    let numbers : numbers_of c.loop-one.made.items ≡ numbers_of c.pop.new.self.items ++ one.at ∷ [] = ap numbers_of items ∙ map-append (λ (m : Made). m.at) c.pop.new.self.items (one ∷ []) in
    let still : (x : ℕ) → IsFilled c.loop-one.places x → IsFilled c.fill.new.places x = λ x h. subst (λ l. IsFilled l x) (sym c.fill.ensures) (filled_still one.at x one.part c.loop-one.places lt h) in
    let here : IsFilled c.fill.new.places one.at = subst (λ l. IsFilled l one.at) (sym c.fill.ensures) (filled_here one.at one.part c.loop-one.places lt) in
    record {
      len = ap length c.fill.ensures ∙ length-set c.loop-one.places one.at _ ∙ i.len;
      under = p.0;
      filled = λ x e. ⊎_elim
          (λ (t : has x (numbers_of c.loop-one.made.items) ≡ true). ⊎_elim
          (λ (same : x ≡ one.at). inr (subst (IsFilled c.fill.new.places) (sym same) here))
          (λ (other : has x (numbers_of c.pop.new.self.items) ≡ true). inl other)
          (has_pushed x one.at (numbers_of c.pop.new.self.items) (sym (ap (has x) numbers) ∙ t)))
          (λ (h : IsFilled c.loop-one.places x). inr (still x h))
          (i.filled x e);
      kept = λ x h. still x (i.kept x h);
      rest = λ lines s first made. (All-pop (IsMade lines s first) c.loop-one.made.items c.pop.new.self.items c.pop.result c.pop.ensures.items (i.rest lines s first made)).0;
      fit = λ lines s first made fit.
          (let q = All-pop (IsMade lines s first) c.loop-one.made.items c.pop.new.self.items c.pop.result c.pop.ensures.items (i.rest lines s first made) in
          subst (FitPlaces lines s first) (sym c.fill.ensures)
          (fit_set lines s first one.at one.part c.loop-one.places lt (subst (λ (r : Option Made). IfSome r (IsMade lines s first)) c.in-Some.is q.1) (i.fit lines s first made fit)));
    }
