-- What is proved of the moved lattice, over the infinite lattice and for any displacements d of at most 2047 parts of 4096 on each axis.
use Rattle.std.specs.Prelude.{◌≡◌, ℕ, ◌*◌, ◌<◌, ◌≤◌}
use Rattle.std.proofs.Math.IntN.{ℤ, pos, nat_abs}
use lib.Signed.{◌<ℤ◌}
use Rattle.lattice_laws.specs.Vectors.{Vector, ◌*ᵥ◌, norm}
use Rattle.lattice_laws.specs.Kinds.{Kind, Slot, Direction, offset}
use Rattle.moved_lattice.specs.Duals.{limit}
use Rattle.moved_lattice.specs.MovedMatrix.{row, others}
use Rattle.moved_lattice.specs.WeightedSums.{sum4, combination, as_integers, total_weight, vertex_of, AreSmall, IsLattice, Holds, moved_place, Matches}

-- The moved matrix has a dominant diagonal: in the row of a vertex that moved within the limit of its direction, its own weight is above the sizes of the others together.
abbrev pub RowsDominate : Type 0
RowsDominate =
    (κ : Kind) (s : Slot) (d : Direction) (t : ℕ) → t ≤ limit d
    → pos (others s (λ j. nat_abs (row κ s d t j))) <ℤ row κ s d t s

-- The displacement contracts: of weights that add up to 0, the sum of the displacements is shorter than that of the vertices.
abbrev pub Contracts : Type 0
Contracts =
    (κ : Kind) (w : Slot → ℤ) (d : Slot → Vector) → sum4 w ≡ pos 0 → ((s : Slot) → norm (d s) ≤ 2047)
    → norm (combination w d) ≤ 4094 * norm (combination w (offset κ))

-- Each rational point is in a lattice tetrahedron: p over n, as 2 p over 2 n.
abbrev pub EveryPointIsHeld : Type 0
EveryPointIsHeld =
    (p : Vector) (n : ℕ) → 0 < n
    → (b : Vector) × (κ : Kind) × (w : Slot → ℕ) × IsLattice b × Holds b κ w (pos 2 *ᵥ p) (2 * n)

-- The moved map is one to one: two points of two lattice tetrahedra with one moved place are one point.
abbrev pub OneToOne : Type 0
OneToOne =
    (d : Vector → Vector) → AreSmall d
    → (b : Vector) (κ : Kind) (w : Slot → ℕ) (b' : Vector) (κ' : Kind) (w' : Slot → ℕ) → IsLattice b → IsLattice b' → total_weight w ≡ total_weight w'
    → moved_place d b κ w ≡ moved_place d b' κ' w'
    → combination (as_integers w) (vertex_of b κ) ≡ combination (as_integers w') (vertex_of b' κ')

-- Two moved lattice tetrahedra meet in their common vertices alone: of two points with one moved place, a vertex of the first has the same weight in the second, or none.
abbrev pub MovedTetrahedraMeet : Type 0
MovedTetrahedraMeet =
    (d : Vector → Vector) → AreSmall d
    → (b : Vector) (κ : Kind) (w : Slot → ℕ) (b' : Vector) (κ' : Kind) (w' : Slot → ℕ) → IsLattice b → IsLattice b' → total_weight w ≡ total_weight w'
    → moved_place d b κ w ≡ moved_place d b' κ' w'
    → (i : Slot) → Matches w κ' b' w' (vertex_of b κ i) (w i)
