use Rattle.std.proofs.Common.{◌≡◌, ◌-◌, ℕ, List, take, drop, ap, ◌∙◌, subst}
use Rattle.std.specs.Prelude.{IfOk}
use Rattle.slab_core.specs.States.{CoreState}
use Rattle.slab_core.specs.Steps.{reach_words}
use Rattle.slab_core.proofs.state.State.reach_words.Goals as goal

pub returns : goal.returns
returns c =
    let v = c.deref.ensures.value in
    let r = c.reach_ids-first.ensures in
    let e : take (c.reach_ids-first.result.1 - c.reach_ids-first.result.0) (drop c.reach_ids-first.result.0 c.deref.result.now) ≡ reach_words c.args.self.now c.args.self.now.words c.args.slab =
    (λ i. take (r.past i - r.first i) (drop (r.first i) (v i))) ∙ ap (λ (s : CoreState). reach_words s s.words c.args.slab) c.self.view_is in
    subst (λ (l : List ℕ). IfOk c.copied.result (λ w. w.items ≡ l)) e c.copied.ensures
