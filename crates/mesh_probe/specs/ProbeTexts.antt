-- The text that tells which tetrahedron of the mesh holds a point.
use Rattle.std.specs.Prelude.{ℕ, pos, int_le, Bool, Option, Some, None, List, [], ◌∷◌, map, codes, decimal}
use Rattle.std.specs.Fmt.{signed_decimal}
use Rattle.std.specs.List.{list_all, position}
use Rattle.definitions.specs.declared.Place.{Place}
use Rattle.definitions.specs.Values.{Field}
use Rattle.definitions.specs.States.{Shares}
use Rattle.definitions.specs.Mesh.{mesh}
use Rattle.definitions.specs.Soundness.{corner_places}
use Rattle.formats.specs.Texts.{line}
use Rattle.mesh_probe.specs.Holding.{places_of, weights}

-- no weight of the point is below 0
abbrev pub holds : List Place → Place → Bool
holds tet p = list_all (λ w. int_le (pos 0) w) (weights tet p)

-- the first tetrahedron of the mesh that holds the point, by its number from 0
abbrev pub holder : Field → Shares → Place → Option ℕ
holder f s p = position (λ tet. holds (corner_places (mesh f s).places tet) p) (mesh f s).tets

-- the line of a tetrahedron: its number, and the weights of its nodes
abbrev pub hold_line : ℕ → List (List ℕ) → List ℕ
hold_line n weights = line (codes "tetrahedron" ∷ decimal n ∷ codes "weights" ∷ weights)

-- the line of the first tetrahedron that holds the point, or of a point outside
abbrev pub holder_text : Field → Shares → Place → Option ℕ → List ℕ
holder_text f s p (Some n) = hold_line n (map signed_decimal (weights (places_of f s n) p))
holder_text f s p None = line (codes "outside" ∷ [])

unfoldable pub probe_text : Field → Shares → Place → List ℕ
probe_text f s p = holder_text f s p (holder f s p)
