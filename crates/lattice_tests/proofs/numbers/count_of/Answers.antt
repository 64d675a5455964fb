use Rattle.std.proofs.Common.{ap, ◌∙◌, sym, subst, length}
use Rattle.definitions.specs.Lattice.{id}
use Rattle.definitions.specs.Mesh.{ArePadded, layer_node_keys, layer_pieces, state_at}
use Rattle.lattice_tests.proofs.numbers.count_of.Goals as goal

pub returns : goal.returns
returns c =
    let ss = c.args.states.now.states in
    let h = c.args.h in
    let dims = c.dims.ensures.dims in
    let padded = subst (λ d. ArePadded d ss) (sym dims) c.requires.padded in
    λ i. record {
      h = c.layer_count.ensures.h i;
      nodes = (c.layer_count.ensures.nodes ss padded (λ v inside known. λ k. state_at ss (id (dims k) v)) ∙ ap (λ d. length (layer_node_keys d ss h)) dims) i;
      tets = (c.layer_count.ensures.tets ss padded (λ v inside known. λ k. state_at ss (id (dims k) v)) ∙ ap (λ d. length (layer_pieces d ss h)) dims) i;
    }
