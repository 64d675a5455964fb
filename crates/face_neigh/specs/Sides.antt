-- Triangles with their nodes ascending, so that those with the same nodes stand together once they are sorted.
use Rattle.std.specs.Prelude.{ℕ, ◌+◌, ◌*◌, ◌^◌, ◌<◌, min, max, List, [], ◌∷◌, map}
use Rattle.std.specs.List.{enumerate_from}
use Rattle.definitions.specs.Soundness.{all_triangles}
use Rattle.face_neigh.specs.declared.side.Side.{Side}

-- the nodes ascending as one number
abbrev pub key_of : Side → ℕ
key_of s = (s.low * 2 ^ 32 + s.middle) * 2 ^ 32 + s.high

-- no node is 2^32 or above
pub record IsSmall (s : Side) : Type 0 where
  pub low : s.low < 2 ^ 32
  pub middle : s.middle < 2 ^ 32
  pub high : s.high < 2 ^ 32

-- the triangle at a place among all triangles
abbrev pub side_of : ℕ → List ℕ → Side
side_of place (a ∷ b ∷ c ∷ []) =
    let last = max a b in
    let inner = min last c in
    record { low = min (min a b) inner; middle = max (min a b) inner; high = max last c; place = place }
side_of place t = record { low = 0; middle = 0; high = 0; place = place }

-- triangles from a place on
abbrev pub sides_from : ℕ → List (List ℕ) → List Side
sides_from place triangles = map (λ e. side_of e.0 e.1) (enumerate_from place triangles)

-- all triangles of tetrahedra
unfoldable pub sides : List (List ℕ) → List Side
sides tets = sides_from 0 (all_triangles tets)
