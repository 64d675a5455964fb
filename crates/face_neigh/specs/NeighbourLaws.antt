-- Laws of neighbours, in every list of tetrahedra of four nodes that differ, of which no triangle is in more than two.
use Rattle.std.specs.Prelude.{◌≡◌, ℕ, List, length, All}
use Rattle.adjacency.specs.Laws.{NodesDiffer, ShareByTwo, AreMutual, EndsAtBoundary}

-- Where one is a neighbour of another, the other is one of it, across the same triangle.
abbrev pub NeighboursAreMutual : Type 0
NeighboursAreMutual = (tets : List (List ℕ)) → All (λ tet. length tet ≡ 4) tets → NodesDiffer tets → ShareByTwo tets → AreMutual tets

-- There is none exactly across a boundary triangle.
abbrev pub NeighboursEndAtBoundary : Type 0
NeighboursEndAtBoundary = (tets : List (List ℕ)) → All (λ tet. length tet ≡ 4) tets → NodesDiffer tets → ShareByTwo tets → EndsAtBoundary tets
