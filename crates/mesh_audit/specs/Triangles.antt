-- Triangles of tetrahedra with the number of their tetrahedron, in order of their nodes.
use Rattle.std.specs.Prelude.{◌≡◌, ◌≢◌, ◌<◌, ◌≤◌, All, Contains, length, true, false, ℕ, ◌+◌, ◌-◌, ◌*◌, ◌^◌, ◌==◌, ◌&&◌, min, max, Bool, nat_lt, List, [], ◌∷◌, ◌++◌, map, fold, count_by, slice_index, slice_index_or, Option, Some, None}
use Rattle.std.specs.Option.{option_map_or}
use Rattle.definitions.specs.Soundness.{triangles_of}
use Rattle.mesh_audit.specs.declared.triangles.Triangle.{Triangle}
use Rattle.mesh_files.specs.Verdicts.{same_direction}

abbrev pub triangle_of : ℕ → List ℕ → Triangle
triangle_of tet nodes = record { nodes = nodes; tet = tet }

-- the triangles of tetrahedra, of which the first has number i
abbrev pub triangles_from : ℕ → List (List ℕ) → List Triangle
triangles_from i [] = []
triangles_from i (t ∷ ts) = map (triangle_of i) (triangles_of t) ++ triangles_from (i + 1) ts

-- a number that tells three nodes whatever their order
abbrev pub least_of : List ℕ → ℕ
least_of ns = min (min (slice_index ns 0) (slice_index ns 1)) (slice_index ns 2)

abbrev pub greatest_of : List ℕ → ℕ
greatest_of ns = max (max (slice_index ns 0) (slice_index ns 1)) (slice_index ns 2)

abbrev pub middle_of : List ℕ → ℕ
middle_of ns = (slice_index ns 0 + slice_index ns 1 + slice_index ns 2) - (least_of ns + greatest_of ns)

unfoldable pub key_of : List ℕ → ℕ
key_of ns = (least_of ns * 2 ^ 32 + middle_of ns) * 2 ^ 32 + greatest_of ns

-- how many of these triangles have the same nodes
abbrev pub alike : List Triangle → Triangle → ℕ
alike ts t = count_by (λ x. key_of x.nodes == key_of t.nodes) ts

-- more than two have
abbrev pub is_one_of_many : List Triangle → Triangle → Bool
is_one_of_many ts t = nat_lt 2 (alike ts t)

-- two have, and both are directed the same way
abbrev pub is_turned_pair : List Triangle → Triangle → Bool
is_turned_pair ts t = alike ts t == 2 && nat_lt 1 (count_by (λ x. same_direction t.nodes x.nodes) ts)

-- no other has
abbrev pub is_alone : List Triangle → Triangle → Bool
is_alone ts t = alike ts t == 1

-- the lesser of a number that may be there and that of a triangle's tetrahedron
abbrev pub lesser_tet : Option ℕ → Triangle → Option ℕ
lesser_tet o t = Some (option_map_or (λ m. min m t.tet) o t.tet)

abbrev pub least_with : Option ℕ → List Triangle → Option ℕ
least_with o ts = fold lesser_tet o ts

-- a triangle that passes is of this tetrahedron
pub record HasTet (p : Triangle → Bool) (ts : List Triangle) (m : ℕ) : Type 0 where
  pub triangle : Triangle
  pub there : Contains ts triangle
  pub passes : p triangle ≡ true
  pub number : triangle.tet ≡ m

pub record IsLeastTet (p : Triangle → Bool) (ts : List Triangle) (m : ℕ) : Type 0 where
  pub one : HasTet p ts m
  pub least : All (λ t. p t ≡ true → m ≤ t.tet) ts

-- the least number of a tetrahedron with a triangle that passes, if there is one
abbrev pub LeastTet : (Triangle → Bool) → List Triangle → Option ℕ → Type 0
LeastTet p ts None = All (λ t. p t ≡ false) ts
LeastTet p ts (Some m) = IsLeastTet p ts m

-- each has three nodes
abbrev pub AreTriangles : List Triangle → Type 0
AreTriangles ts = All (λ t. length t.nodes ≡ 3) ts

-- the key of triangle k
abbrev pub key_at : List Triangle → ℕ → ℕ
key_at ts k = key_of (slice_index_or ts k (triangle_of 0 [])).nodes

-- two triangles, both directed the same way
abbrev pub is_pair : List Triangle → Bool
is_pair (s ∷ t ∷ []) = same_direction s.nodes t.nodes
is_pair ts = false

pub record AreDistinct (a b c : ℕ) : Type 0 where
  pub ab : a ≢ b
  pub ac : a ≢ c
  pub bc : b ≢ c

-- a triangle of three different numbers of 32 bits
pub record IsPlain (t : List ℕ) : Type 0 where
  pub a : ℕ
  pub b : ℕ
  pub c : ℕ
  pub is : t ≡ a ∷ b ∷ c ∷ []
  pub distinct : AreDistinct a b c
  pub a_fits : a < 2 ^ 32
  pub b_fits : b < 2 ^ 32
  pub c_fits : c < 2 ^ 32
