-- The tetrahedra of a field's mesh, by their numbers.
use Rattle.std.specs.Prelude.{ℕ, List, [], slice_index_or}
use Rattle.definitions.specs.Values.{Field}
use Rattle.definitions.specs.States.{Shares}
use Rattle.definitions.specs.Mesh.{mesh}

-- the four node numbers of tetrahedron n
abbrev pub tet_at : Field → Shares → ℕ → List ℕ
tet_at f s n = slice_index_or (mesh f s).tets n []
