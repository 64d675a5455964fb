-- What is proved of the triangles of tetrahedra, given as node numbers over a list of places.
use Rattle.std.specs.Prelude.{◌≡◌, ℕ, ◌+◌, ◌≤◌, IsFalse, List, length, count_by, All, AllPairs}
use Rattle.std.proofs.Math.IntN.{pos}
use lib.Signed.{◌<ℤ◌}
use Rattle.definitions.specs.declared.Place.{Place}
use Rattle.definitions.specs.Soundness.{IsPositive, Meet, same_nodes, all_triangles, tets_at_triangle, boundary, edge_count}
use Rattle.lattice_laws.specs.Vectors.{Vector}
use Rattle.triangle_laws.specs.Boundary.{turned, IsPaired}
use Rattle.triangle_laws.specs.Overlap.{volume_of, Overlap}

-- Two tetrahedra with volumes above zero that have a triangle in one direction overlap.
abbrev pub SharedTrianglesOverlap : Type 0
SharedTrianglesOverlap = (a b c d e : Vector) → pos 0 <ℤ volume_of a b c d → pos 0 <ℤ volume_of a b c e → Overlap a b c d e

-- tetrahedra of four nodes, each with a volume above zero; any two share just the hull of their common nodes, and no two have the same nodes
pub record AreConforming (places : List Place) (tets : List (List ℕ)) : Type 0 where
  pub four : All (λ t. length t ≡ 4) tets
  pub positive : All (IsPositive places) tets
  pub meet : All (λ a. All (Meet places a) tets) tets
  pub different : AllPairs (λ a b. IsFalse (same_nodes a b)) tets

-- No triangle is in more than two tetrahedra.
abbrev pub TrianglesAreShared : Type 0
TrianglesAreShared = (places : List Place) (tets : List (List ℕ)) → AreConforming places tets → All (λ t. tets_at_triangle tets t ≤ 2) (all_triangles tets)

-- Of the tetrahedra that have a triangle, one has it in its own direction, and the others turned.
abbrev pub PartnersAreTurned : Type 0
PartnersAreTurned =
    (places : List Place) (tets : List (List ℕ)) → AreConforming places tets
    → All (λ t. tets_at_triangle tets t ≡ 1 + count_by (turned t) (all_triangles tets)) (all_triangles tets)

-- A boundary triangle has no turned partner, any other just one.
abbrev pub TrianglesArePaired : Type 0
TrianglesArePaired = (places : List Place) (tets : List (List ℕ)) → AreConforming places tets → All (IsPaired tets) (all_triangles tets)

-- Where the triangles of tetrahedra are paired, their boundary closes up.
abbrev pub PairedBoundariesClose : Type 0
PairedBoundariesClose = (tets : List (List ℕ)) → All (IsPaired tets) (all_triangles tets) → (a b : ℕ) → edge_count (boundary tets) a b ≡ edge_count (boundary tets) b a

-- Over the boundary triangles each edge occurs as often one way as the other.
abbrev pub BoundariesClose : Type 0
BoundariesClose =
    (places : List Place) (tets : List (List ℕ)) → AreConforming places tets → (a b : ℕ) → edge_count (boundary tets) a b ≡ edge_count (boundary tets) b a
