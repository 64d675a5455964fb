use Rattle.std.proofs.Common.{◌≡◌, ◌+◌, ◌-◌, ◌<◌, ◌≤◌, ℕ, ap, ◌∙◌, arith}
use Rattle.definitions.specs.declared.Dims.{Dims}
use Rattle.definitions.specs.Lattice.{layers}
use Rattle.definitions.specs.Layout.{layer_start, layer_len}
use Rattle.slab_core.proofs.Layers.{next_start, start_rises, all_start}
use Rattle.slab_core.proofs.state.reach_ids.Goals as goal

-- where the last layer of a run ends
ends : (d : Dims) (to start len : ℕ) → 0 < to → to ≤ layers d → start ≡ layer_start d (to - 1) → len ≡ layer_len d (to - 1) → start + len ≡ layer_start d to
ends d to start len some within s l =
    let n = next_start d (to - 1) (omega arith) in
    let e : to - 1 + 1 ≡ to = omega arith in
    let m : layer_start d (to - 1 + 1) ≡ layer_start d to = ap (layer_start d) e in
    omega arith

pub returns-clause-past : goal.returns-clause-past
returns-clause-past c =
    let r = c.reach_of-from.ensures in
    ends c.args.layout.now.dims c.reach_of-from.result.1 c.layer_start.result c.layer_len.result (let s = r.some in omega arith) r.within c.layer_start.ensures.start c.layer_len.ensures.len ∙ ap (layer_start c.args.layout.now.dims) r.past

pub returns-clause-order : goal.returns-clause-order
returns-clause-order c =
    let r = c.reach_of-from.ensures in
    let e = ends c.args.layout.now.dims c.reach_of-from.result.1 c.layer_start.result c.layer_len.result (let s = r.some in omega arith) r.within c.layer_start.ensures.start c.layer_len.ensures.len in
    let u = start_rises c.args.layout.now.dims c.reach_of-from.result.0 c.reach_of-from.result.1 (let s = r.some in omega arith) r.within in
    let f = c.layer_start-2.ensures.start in
    less c.layer_start-2.result _ (c.layer_start.result + c.layer_len.result) _ f u e
  where
    less : (a b m n : ℕ) → a ≡ b → b ≤ n → m ≡ n → a ≤ m
    less a b m n p q r = omega arith

pub returns-clause-within : goal.returns-clause-within
returns-clause-within c =
    let r = c.reach_of-from.ensures in
    let e = ends c.args.layout.now.dims c.reach_of-from.result.1 c.layer_start.result c.layer_len.result (let s = r.some in omega arith) r.within c.layer_start.ensures.start c.layer_len.ensures.len in
    let u = start_rises c.args.layout.now.dims c.reach_of-from.result.1 (layers c.args.layout.now.dims) r.within (omega arith) in
    less (c.layer_start.result + c.layer_len.result) _ _ _ e u (all_start c.args.layout.now.dims)
  where
    less : (a b m n : ℕ) → a ≡ b → b ≤ m → m ≡ n → a ≤ n
    less a b m n p q r = omega arith
