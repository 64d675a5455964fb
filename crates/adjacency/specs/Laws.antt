-- What neighbours and boundary triangles are to one another.
use Rattle.std.specs.Prelude.{◌≡◌, ◌≢◌, ◌↔◌, ◌<◌, ◌≤◌, ℕ, Some, None, List, [], length, slice_index_or, All, AllPairs, Contains, IsTrue, count_by}
use Rattle.definitions.specs.Soundness.{same_nodes, all_triangles, tets_at_triangle, boundary}
use Rattle.adjacency.specs.Neighbours.{triangle_without, neighbour}

-- no tetrahedron has a node twice
abbrev pub NodesDiffer : List (List ℕ) → Type 0
NodesDiffer tets = All (λ tet. AllPairs (λ a b. a ≢ b) tet) tets

-- no triangle is in more than two tetrahedra
abbrev pub ShareByTwo : List (List ℕ) → Type 0
ShareByTwo tets = All (λ triangle. tets_at_triangle tets triangle ≤ 2) (all_triangles tets)

-- where u is a neighbour of t, t is one of u, and both are so across the same triangle
abbrev pub AreMutual : List (List ℕ) → Type 0
AreMutual tets =
    (t i u : ℕ) → t < length tets → i < 4 → neighbour tets t i ≡ Some u
    → (j : ℕ) × (u < length tets) × (u ≢ t) × (j < 4) × (neighbour tets u j ≡ Some t)
    × IsTrue (same_nodes (triangle_without (slice_index_or tets t []) i) (triangle_without (slice_index_or tets u []) j))

-- there is no neighbour exactly across a boundary triangle
abbrev pub EndsAtBoundary : List (List ℕ) → Type 0
EndsAtBoundary tets =
    (t i : ℕ) → t < length tets → i < 4
    → (neighbour tets t i ≡ None) ↔ Contains (boundary tets) (triangle_without (slice_index_or tets t []) i)

-- no two of these triangles have the same nodes
abbrev pub StandOnce : List (List ℕ) → Type 0
StandOnce triangles = All (λ triangle. count_by (same_nodes triangle) triangles ≡ 1) triangles
