-- How many tetrahedra and nodes a mesh has at most.
use Rattle.std.specs.Prelude.{◌*◌, ◌^◌, ◌<◌, ◌≤◌, length}
use Rattle.definitions.specs.Lattice.{vertices}
use Rattle.definitions.specs.Mesh.{mesh}
use Rattle.definitions.specs.States.{Shares}
use Rattle.definitions.specs.Values.{Field, IsField}

pub record AreFew (f : Field) (s : Shares) : Type 0 where
  pub by_vertices : length (mesh f s).tets ≤ 18 * length (vertices f.dims)
  pub tets : length (mesh f s).tets < 2 ^ 32
  pub nodes : length (mesh f s).places < 2 ^ 31

abbrev pub AllAreFew : Type 0
AllAreFew = (f : Field) (s : Shares) → IsField f → AreFew f s
