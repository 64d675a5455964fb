-- The states of all vertices, by their ids.
use Rattle.std.proofs.Common.{◌≡◌, ap, ◌∙◌}
use Rattle.std.proofs.lemmas.List.{get_or-map}
use Rattle.definitions.specs.declared.Vertex.{Vertex}
use Rattle.definitions.specs.declared.State.TheVariants as state
use Rattle.definitions.specs.Lattice.{InDomain, id, vertex, vertices}
use Rattle.definitions.specs.Values.{Field}
use Rattle.definitions.specs.Mesh.{state_at}
use Rattle.definitions.specs.States.{Shares, state_of, states}
use Rattle.lattice_laws.proofs.Vertices.{vertex_at-id}

pub state_told : (f : Field) (s : Shares) (v : Vertex) → InDomain f.dims v → state_at (states f s) (id f.dims v) ≡ state_of f s v
unfolding states
state_told f s v inside =
    let k = vertex_at-id f.dims v inside in
    get_or-map (state_of f s) (vertices f.dims) (id f.dims v) (vertex 0 0 0) state.Minus k.0 ∙ ap (state_of f s) k.1
