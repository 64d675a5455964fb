use Rattle.std.proofs.Common.{◌≡◌, ◌≤◌, ◌<◌, ◌^◌, ◌++◌, ◌∷◌, [], List, All, length, map, sym, ap, ◌∙◌, subst}
use Rattle.std.specs.declared.option.Option.{Option}
use Rattle.std.specs.Option.{option_to_list}
use Rattle.std.specs.List.{range_with_len, sum_by}
use Rattle.definitions.specs.declared.Dims.{Dims}
use Rattle.definitions.specs.Lattice.{IsDims, vertices}
use Rattle.definitions.specs.States.{states}
use Rattle.lattice_counts.proofs.Ranks.{layers_count_vertices}
use Rattle.layer_cells.specs.Seats.{Subject}
use Rattle.vertex_numbers.specs.declared.LayerCount.{LayerCount}
use Rattle.slab_survey.specs.Workers.{WorkerValue}
use Rattle.mesh_lists.proofs.Sizes.{layers_in_order, nodes_together, tets_together}
use Rattle.survey_workers.specs.Going.{IsEnded}
use Rattle.survey_workers.proofs.Shares.{last_of_all}
use Rattle.survey.proofs.run.conclude.Goals as goal

few_vertices : (d e : Dims) (a : Subject) → IsDims d → d ≡ e → a.field.dims ≡ e → length (vertices a.field.dims) ≤ 2 ^ 27
few_vertices d e a is same of = ((layers_count_vertices a.field.dims).small (subst IsDims (same ∙ sym of) is)).all

pub gather-all-requires-clause-last : goal.gather-all-requires-clause-last
gather-all-requires-clause-last g c =
    let w : WorkerValue g.row.L.Denot = c.in-Some.last in
    let items : c.args.workers.items ≡ c.pop.new.self.items ++ w ∷ [] = c.pop.ensures.items ∙ ap (λ (o : Option (WorkerValue g.row.L.Denot)). c.pop.new.self.items ++ option_to_list o) c.in-Some.is in
    last_of_all (λ (v : WorkerValue g.row.L.Denot). IsEnded c.args.cells.subject.field.dims c.args.layout.slab c.args.claims c.args.cells v) c.pop.new.self.items w
    (subst (λ (l : List (WorkerValue g.row.L.Denot)). All (λ v. IsEnded c.args.cells.subject.field.dims c.args.layout.slab c.args.claims c.args.cells v) l) items c.requires.workers)

pub new-requires-clause-layers : goal.new-requires-clause-layers
new-requires-clause-layers g c =
    let a : Subject = c.args.cells.subject in
    subst (λ (cs : List LayerCount). map (λ c. c.h) cs ≡ range_with_len 0 (length cs)) (sym (c.as_slice.ensures.value ∙ c.finish-drawn.ensures.table)) (layers_in_order a.field.dims (states a.field a.shares))

pub new-requires-clause-nodes : goal.new-requires-clause-nodes
new-requires-clause-nodes g c =
    let a : Subject = c.args.cells.subject in
    let few = few_vertices c.args.layout.dims c.args.field.now.dims a c.requires.layout.sizes c.requires.sizes (ap (λ (s : Subject). s.field.dims) c.requires.cells) in
    subst (λ (cs : List LayerCount). sum_by (λ c. c.nodes) cs < 2 ^ 32) (sym (c.as_slice.ensures.value ∙ c.finish-drawn.ensures.table)) (nodes_together a.field.dims (states a.field a.shares) few)

pub new-requires-clause-tets : goal.new-requires-clause-tets
new-requires-clause-tets g c =
    let a : Subject = c.args.cells.subject in
    let few = few_vertices c.args.layout.dims c.args.field.now.dims a c.requires.layout.sizes c.requires.sizes (ap (λ (s : Subject). s.field.dims) c.requires.cells) in
    subst (λ (cs : List LayerCount). sum_by (λ c. c.tets) cs < 2 ^ 64) (sym (c.as_slice.ensures.value ∙ c.finish-drawn.ensures.table)) (tets_together a.field.dims (states a.field a.shares) few)
