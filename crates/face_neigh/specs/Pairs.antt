-- Neighbours as they are noted, pair by pair of triangles that stand together.
use Rattle.std.specs.Prelude.{◌≡◌, ◌≢◌, ◌⊎◌, ℕ, ◌+◌, ◌-◌, ◌/◌, ◌%◌, ◌<◌, Some, None, Option, List, [], ◌∷◌, length, replicate, slice_index_or}
use Rattle.face_neigh.specs.declared.side.Side.{Side}
use Rattle.face_neigh.specs.Sides.{key_of}

-- what is noted at the triangle at a place: its triangle k is the one without node 3 - k
abbrev pub noted : List (List (Option ℕ)) → ℕ → Option ℕ
noted found place = slice_index_or (slice_index_or found (place / 4) []) (3 - place % 4) None

abbrev pub side_at : List Side → ℕ → Side
side_at sides k = slice_index_or sides k (record { low = 0; middle = 0; high = 0; place = 0 })

-- the two triangles have the same nodes, p is the place of one, and v the tetrahedron of the other
abbrev pub IsOther : Side → Side → ℕ → ℕ → Type 0
IsOther a b p v = (key_of a ≡ key_of b) × (((p ≡ a.place) × (v ≡ b.place / 4)) ⊎ ((p ≡ b.place) × (v ≡ a.place / 4)))

-- nothing is noted yet of so many tetrahedra
abbrev pub none_noted : ℕ → List (List (Option ℕ))
none_noted count = replicate count (None ∷ None ∷ None ∷ None ∷ [])

-- what is noted besides is right of the two triangles, and it is noted at both if they have the same nodes
pub record NotesPair (old new : List (List (Option ℕ))) (a b : Side) : Type 0 where
  pub rows : (t : ℕ) → length (slice_index_or new t []) ≡ length (slice_index_or old t [])
  pub right : (p v : ℕ) → noted new p ≡ Some v → (noted old p ≡ Some v) ⊎ IsOther a b p v
  pub kept : (p : ℕ) → noted old p ≢ None → noted new p ≢ None
  pub both : key_of a ≡ key_of b → (noted new a.place ≢ None) × (noted new b.place ≢ None)

-- the same of each two of the first n triangles that stand together
pub record NotesPairs (old new : List (List (Option ℕ))) (sides : List Side) (n : ℕ) : Type 0 where
  pub rows : (t : ℕ) → length (slice_index_or new t []) ≡ length (slice_index_or old t [])
  pub right : (p v : ℕ) → noted new p ≡ Some v → (noted old p ≡ Some v) ⊎ ((k : ℕ) × (k + 1 < n) × IsOther (side_at sides k) (side_at sides (k + 1)) p v)
  pub both : (k : ℕ) → k + 1 < n → key_of (side_at sides k) ≡ key_of (side_at sides (k + 1)) → (noted new (side_at sides k).place ≢ None) × (noted new (side_at sides (k + 1)).place ≢ None)
