use Rattle.std.proofs.Common.{sym, subst}
use Rattle.definitions.specs.declared.Dims.{Dims}
use Rattle.definitions.specs.Lattice.{id}
use Rattle.definitions.specs.Mesh.{ArePadded, state_at}
use Rattle.vertex_numbers.specs.Numbering.{mesh_bits}
use Rattle.vertex_numbers.proofs.starts.bits_at.Goals as goal

pub returns : goal.returns
unfolding mesh_bits
returns c =
    let ss = c.args.states.now.states in
    let same = c.requires.dims in
    c.nodes_at.ensures.nodes ss (subst (λ (e : Dims). ArePadded e ss) (sym same) c.requires.padded) (λ w inside known. λ i. state_at ss (id (same i) w))
