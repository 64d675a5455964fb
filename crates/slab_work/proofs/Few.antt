-- A mesh has few tetrahedra and nodes.
use Rattle.std.proofs.Common.{◌*◌, ◌≤◌, length, sym, subst}
use Rattle.std.proofs.lemmas.List.{length-map}
use Rattle.definitions.specs.Lattice.{vertices}
use Rattle.definitions.specs.Mesh.{all_pieces, mesh, node_keys, number_of}
use Rattle.definitions.specs.States.{Shares, states}
use Rattle.definitions.specs.Values.{Field}
use Rattle.std.proofs.Common.{map}
use Rattle.lattice_counts.proofs.Ranks.{all_small}
use Rattle.mesh_lists.proofs.Meshes.{few_places, few_tets}
use Rattle.mesh_lists.proofs.Sizes.{few_pieces}
use Rattle.slab_work.specs.Few.{AllAreFew}

by_vertices : (f : Field) (s : Shares) → length (mesh f s).tets ≤ 18 * length (vertices f.dims)
unfolding mesh
by_vertices f s =
    subst (λ n. n ≤ 18 * length (vertices f.dims)) (sym (length-map (all_pieces f.dims (states f s)) (map (number_of (node_keys f.dims (states f s)))))) (few_pieces f.dims (states f s))

pub all_are_few : AllAreFew
all_are_few f s is =
    let few = all_small f.dims is.sizes in
    record { by_vertices = by_vertices f s; tets = few_tets f s few; nodes = few_places f s few }
