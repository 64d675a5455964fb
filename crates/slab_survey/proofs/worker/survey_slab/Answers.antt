use Rattle.std.proofs.Common.{◌≡◌, ◌≤◌, ◌+◌, ◌-◌, ℕ, length, sym, ap, ◌∙◌, rules, arith}
use Rattle.std.specs.Prelude.{vec_capacity, vec_len}
use Rattle.definitions.specs.declared.Dims.{Dims}
use Rattle.definitions.specs.Layout.{slab_from, slab_to}
use Rattle.slab_survey.specs.Workers.{WorkerValue}
use Rattle.slab_survey.specs.Layers.{slab_layers}
use Rattle.slab_survey.proofs.Reaches.{knows_around, slab_length}
use Rattle.slab_survey.proofs.worker.survey_slab.Goals as goal

pub append_counts-requires-clause-known : goal.append_counts-requires-clause-known
append_counts-requires-clause-known g c h from to around below near far =
    let r = c.reach_of-low.ensures in
    let s = c.layers_of-first.ensures in
    knows_around c.args.layout.now.dims c.args.layout.now.slab c.args.slab h _ _ _ _ _ c.know_layers.ensures.survey.1.known r.first r.past s.first s.past from to around below near far

pub append_counts-requires-clause-room : goal.append_counts-requires-clause-room
append_counts-requires-clause-room g c =
    let s = c.layers_of-first.ensures in
    let d = c.args.layout.now.dims in
    let t = c.args.layout.now.slab in
    let len : length (slab_layers c.args.field.now.dims t c.args.slab) ≡ slab_to d t c.args.slab - slab_from t c.args.slab = ap (λ (e : Dims). length (slab_layers e t c.args.slab)) (sym c.requires.sizes) ∙ slab_length d t c.args.slab in
    let counts : length c.worker.inside.counts.items ≡ length c.args.worker.now.counts = ap (λ (w : WorkerValue g.row.L.Denot). length w.counts) c.worker.view_is in
    let room : vec_capacity c.worker.inside.counts ≡ c.args.worker.now.room = ap (λ (w : WorkerValue g.row.L.Denot). w.room) c.worker.view_is in
    let own : vec_len c.worker.inside.counts ≡ length c.worker.inside.counts.items = search rules in
    fits _ _ _ _ _ _ _ _ _ _ c.requires.room own counts room len s.first s.past
  where
    fits : (n items counts cap room len first past low high : ℕ) → counts + len ≤ room → n ≡ items → items ≡ counts → cap ≡ room → len ≡ high - low → first ≡ low → past ≡ high → n + (past - first) ≤ cap
    fits n items counts cap room len first past low high a b e f h i j = omega arith
