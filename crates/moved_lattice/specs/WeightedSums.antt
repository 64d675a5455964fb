-- Points as weighted sums of the vertices of a lattice tetrahedron, before and after the vertices are moved.
use Rattle.std.specs.Prelude.{◌≡◌, ℕ, ◌+◌, ◌*◌, ◌≤◌}
use Rattle.std.proofs.Math.IntN.{ℤ, pos, ◌+ℤ◌, ◌*ℤ◌}
use Rattle.definitions.specs.Vectors.{dot}
use Rattle.exact.specs.Polynomials.{Expression, constant, plus, times}
use Rattle.exact.specs.Determinants.{det3, det4}
use Rattle.lattice_laws.specs.Vectors.{Vector, vector, norm, ◌+ᵥ◌, ◌-ᵥ◌, ◌*ᵥ◌}
use Rattle.lattice_laws.specs.Kinds.{Kind, Slot, slot_0, slot_1, slot_2, slot_3, offset}
use Rattle.moved_lattice.specs.Duals.{dual}

-- a sum over the four slots
abbrev pub sum4 : (Slot → ℤ) → ℤ
sum4 f = f slot_0 +ℤ f slot_1 +ℤ f slot_2 +ℤ f slot_3

-- the weighted sum of four vectors
abbrev pub combination : (Slot → ℤ) → (Slot → Vector) → Vector
combination w q = vector (sum4 (λ j. w j *ℤ (q j).x)) (sum4 (λ j. w j *ℤ (q j).y)) (sum4 (λ j. w j *ℤ (q j).z))

-- the same sum, and a product of vectors, over expressions
abbrev pub sum4_expression : (Slot → Expression) → Expression
sum4_expression f = plus (plus (plus (f slot_0) (f slot_1)) (f slot_2)) (f slot_3)

abbrev pub dot_expression : Vector → Expression → Expression → Expression → Expression
dot_expression p a b c = plus (plus (times (constant p.x) a) (times (constant p.y) b)) (times (constant p.z) c)

-- a lattice vertex: sums and differences of two of its coordinates are even; here by the forms that occur
abbrev pub IsLattice : Vector → Type 0
IsLattice u = (κ : Kind) (s : Slot) → (m : ℤ) × (dot (dual κ s) u ≡ pos 2 *ℤ m)

-- a vertex of the lattice tetrahedron of a kind at b
abbrev pub vertex_of : Vector → Kind → Slot → Vector
vertex_of b κ s = b +ᵥ offset κ s

-- what weights add up to
abbrev pub total_weight : (Slot → ℕ) → ℕ
total_weight w = w slot_0 + w slot_1 + w slot_2 + w slot_3

abbrev pub as_integers : (Slot → ℕ) → Slot → ℤ
as_integers w s = pos (w s)

-- the tetrahedron of kind κ at b holds the point p over n, with the weights w
pub record Holds (b : Vector) (κ : Kind) (w : Slot → ℕ) (p : Vector) (n : ℕ) : Type 0 where
  pub total : total_weight w ≡ n
  pub place : combination (as_integers w) (vertex_of b κ) ≡ p

-- each weight c times
abbrev pub scaled_by : ℕ → (Slot → ℕ) → Slot → ℕ
scaled_by c w s = c * w s

-- displacements of all vertices, each at most 2047 parts on each axis, where a half unit is 4096
abbrev pub AreSmall : (Vector → Vector) → Type 0
AreSmall d = (u : Vector) → norm (d u) ≤ 2047

-- The moved place of a point, over 4096 times its whole: each vertex u is moved by d u 4096ths.
abbrev pub moved_place : (Vector → Vector) → Vector → Kind → (Slot → ℕ) → Vector
moved_place d b κ w = combination (as_integers w) (λ s. pos 4096 *ᵥ vertex_of b κ s +ᵥ d (vertex_of b κ s))

-- a vertex u with a weight m: the weight is 0, or u is a vertex of the other tetrahedron, with the same weight there
pub data Matches (w : Slot → ℕ) (κ' : Kind) (b' : Vector) (w' : Slot → ℕ) (u : Vector) (m : ℕ) : Type 0 where
  has_none : m ≡ 0 → Matches w κ' b' w' u m
  same_vertex : (s : Slot) → u ≡ vertex_of b' κ' s → m ≡ w' s → Matches w κ' b' w' u m

-- six times the signed volume of four points
abbrev pub volume_of_four : (Slot → Vector) → ℤ
volume_of_four p = det3 (p slot_1 -ᵥ p slot_0).x (p slot_1 -ᵥ p slot_0).y (p slot_1 -ᵥ p slot_0).z (p slot_2 -ᵥ p slot_0).x (p slot_2 -ᵥ p slot_0).y (p slot_2 -ᵥ p slot_0).z (p slot_3 -ᵥ p slot_0).x (p slot_3 -ᵥ p slot_0).y (p slot_3 -ᵥ p slot_0).z

-- the determinant of four lists of weights
abbrev pub det_of_rows : (Slot → Slot → ℤ) → ℤ
det_of_rows w = det4 (w slot_0 slot_0) (w slot_0 slot_1) (w slot_0 slot_2) (w slot_0 slot_3) (w slot_1 slot_0) (w slot_1 slot_1) (w slot_1 slot_2) (w slot_1 slot_3) (w slot_2 slot_0) (w slot_2 slot_1) (w slot_2 slot_2) (w slot_2 slot_3) (w slot_3 slot_0) (w slot_3 slot_1) (w slot_3 slot_2) (w slot_3 slot_3)
