use Rattle.std.proofs.Common.{◌≡◌, ◌≤◌, ℕ, ap, subst, ◌∙◌, arith}
use Rattle.definitions.specs.Layout.{layer_start}
use Rattle.vertex_numbers.specs.Numbering.{IsDraft}
use Rattle.vertex_numbers.proofs.LayerStarts.{starts_rise}
use Rattle.vertex_numbers.proofs.starts.drafted.Goals as goal

pub overflow_sub-end : goal.overflow_sub-end
overflow_sub-end c =
    let d = c.args.states.now.dims in
    let same = c.dims-dims.ensures.dims in
    between _ _ _ _
    (c.ids_below-first.ensures.start ∙ ap (λ e. layer_start e c.args.from) same)
    (c.ids_below-end.ensures.start ∙ ap (λ e. layer_start e c.args.to) same)
    (starts_rise d c.args.from c.args.to (let s = c.requires.some in omega arith) c.requires.within)
  where
    between : (a b s t : ℕ) → a ≡ s → b ≡ t → s ≤ t → a ≤ b
    between a b s t e f r = omega arith

pub returns-clause-draft : goal.returns-clause-draft
returns-clause-draft c =
    let s = c.args.states.now in
    let last : c.loop-h.h ≡ c.args.to = (let t = c.loop-h-test.false in let e = c.loop-h.auto.h-end (let s = c.requires.some in omega arith) in omega arith) in
    subst (λ h. IsDraft s.dims s.states (layer_start s.dims h) c.loop-h.draft) last c.loop-h.invariant.draft
