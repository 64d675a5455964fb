-- What it means that finished tetrahedra are found sound.
use Rattle.std.specs.Prelude.{◌≡◌, ◌≤◌, ℕ, List, All, AllPairs, IsTrue, ⊤}
use Rattle.definitions.specs.declared.Place.{Place}
use Rattle.definitions.specs.Soundness.{IsPositive, same_nodes, all_triangles, tets_at_triangle, boundary, edge_count}
use Rattle.triangle_laws.specs.Boundary.{turned}
use Rattle.formats.specs.declared.Verdict.{Verdict}
use Rattle.formats.specs.declared.Verdict.TheVariants.{NotPositive, Crowded, Turned, Sound}

-- Every tetrahedron has a volume above zero, no triangle is in more than two, two with a common triangle have it turned over, and the boundary closes up: each directed edge occurs in it as often as its reverse.
pub record FitTogether (places : List Place) (tets : List (List ℕ)) : Type 0 where
  pub positive : All (IsPositive places) tets
  pub at_most_two : All (λ t. tets_at_triangle tets t ≤ 2) (all_triangles tets)
  pub opposite : AllPairs (λ s t. IsTrue (same_nodes s t) → IsTrue (turned s t)) (all_triangles tets)
  pub closes : (a b : ℕ) → edge_count (boundary tets) a b ≡ edge_count (boundary tets) b a

-- the verdict is that they are sound
abbrev pub IsSoundVerdict : Verdict → Type 0
IsSoundVerdict (NotPositive tet) = ⊥
IsSoundVerdict (Crowded tet) = ⊥
IsSoundVerdict (Turned tet) = ⊥
IsSoundVerdict (Sound nodes tets boundary) = ⊤
