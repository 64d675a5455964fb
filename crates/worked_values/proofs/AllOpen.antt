-- One name under which a proof opens all definitions, as worked rows do.
use Rattle.std.specs.Prelude.{ℕ}
use Rattle.std.specs.Fmt.{digits}
use Rattle.definitions.specs.Lists.{least_by}
use Rattle.definitions.specs.Lattice.{vertices, id, neighbour, direction}
use Rattle.definitions.specs.Values.{value, corner_difference}
use Rattle.definitions.specs.Cuts.{cut_number, cut_between}
use Rattle.definitions.specs.States.{near_on, near_cuts, state_of, states}
use Rattle.definitions.specs.Tetrahedra.{tets_from, lattice_tets}
use Rattle.definitions.specs.Facets.{fill}
use Rattle.definitions.specs.Stencils.{kept, facets}
use Rattle.definitions.specs.Pieces.{oriented, pieces}
use Rattle.definitions.specs.Mesh.{tet_pieces, all_pieces, node_keys, node_place, mesh}
use Rattle.definitions.specs.Angles.{edge_cosine, angles, extremes_of, greatest_divisor}
use Rattle.formats.specs.Texts.{sign_line}

unfoldable pub all_open : ℕ
unfolding least_by vertices id neighbour direction value corner_difference cut_number cut_between near_on near_cuts state_of states tets_from lattice_tets fill kept facets oriented pieces tet_pieces all_pieces node_keys node_place mesh edge_cosine angles extremes_of greatest_divisor sign_line digits
all_open = 0
