use Rattle.std.proofs.Common.{◌≡◌, ◌∙◌, ap, sym, subst, length}
use Rattle.definitions.specs.declared.Dims.{Dims}
use Rattle.definitions.specs.Lattice.{id, InDomain}
use Rattle.definitions.specs.Mesh.{ArePadded, layer_node_keys, layer_pieces, state_at}
use Rattle.definitions.specs.States.{states}
use Rattle.node_laws.proofs.Padding.{states_are_padded}
use Rattle.slab_survey.proofs.Told.{state_told}
use Rattle.slab_survey.proofs.layer.count_layer.Goals as goal

pub returns-clause-count : goal.returns-clause-count
returns-clause-count c =
    let f = c.args.cells.now.subject.field in
    let s = c.args.cells.now.subject.shares in
    let ss = states f s in
    let h = c.args.h in
    let dims : c.args.dims ≡ f.dims = c.requires.sizes in
    let padded = subst (λ (d : Dims). ArePadded d ss) (sym dims) (states_are_padded f s) in
    λ i. record {
      h = c.layer_count.ensures.h i;
      nodes = (c.layer_count.ensures.nodes ss padded (λ v inside known. ap (λ (d : Dims). state_at ss (id d v)) dims ∙ state_told f s v (subst (λ (d : Dims). InDomain d v) dims inside)) ∙ ap (λ (d : Dims). length (layer_node_keys d ss h)) dims) i;
      tets = (c.layer_count.ensures.tets ss padded (λ v inside known. ap (λ (d : Dims). state_at ss (id d v)) dims ∙ state_told f s v (subst (λ (d : Dims). InDomain d v) dims inside)) ∙ ap (λ (d : Dims). length (layer_pieces d ss h)) dims) i;
    }
