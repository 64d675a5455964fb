-- The steps by which a solid is cut, over its positions by ascending key.
use Rattle.std.specs.Prelude.{ℕ, suc, Bool, false, ◌&&◌, ◌||◌, ◌==◌, nat_lt, nat_eq, List, [], ◌∷◌, slice_index, slice_set, if◌then◌else◌, unwrap_or, position}
use Rattle.definitions.specs.Facets.{holds}
use Rattle.quad_split.specs.declared.Found.{Found}

-- ---- a pyramid: each piece is all positions but one

-- the list of five without one of its places
abbrev pub without : List ℕ → ℕ → List ℕ
without order place =
    slice_index order (if nat_lt 0 place then 0 else 1)
    ∷ slice_index order (if nat_lt 1 place then 1 else 2)
    ∷ slice_index order (if nat_lt 2 place then 2 else 3)
    ∷ slice_index order (if nat_lt 3 place then 3 else 4)
    ∷ []

abbrev pub place_of : List ℕ → ℕ → ℕ
place_of order a = unwrap_or (position (λ p. p == a) order) 0

-- the lists that leave out one of two positions each, the one that leaves out the later first
abbrev pub two_without : List ℕ → ℕ → ℕ → List (List ℕ)
two_without order a b =
    let p = place_of order a in
    let q = place_of order b in
    if nat_lt q p then without order p ∷ without order q ∷ [] else without order q ∷ without order p ∷ []

-- ---- a prism: the least position with each of three triangles

-- the triangle and the ring that lack a position
abbrev pub far_triangle : ℕ → List ℕ
far_triangle least = if nat_lt least 3 then 3 ∷ 4 ∷ 5 ∷ [] else 0 ∷ 1 ∷ 2 ∷ []

abbrev pub far_ring : ℕ → List ℕ
far_ring least =
    if nat_eq least 0 || nat_eq least 3 then 1 ∷ 2 ∷ 5 ∷ 4 ∷ []
    else (if nat_eq least 1 || nat_eq least 4 then 2 ∷ 0 ∷ 3 ∷ 5 ∷ [] else 0 ∷ 1 ∷ 4 ∷ 3 ∷ [])

-- the three positions are one of the triangles
abbrev pub is_cut : List (List ℕ) → ℕ → ℕ → ℕ → Bool
is_cut [] a b c = false
is_cut (t ∷ ts) a b c = (holds nat_eq t a && (holds nat_eq t b && holds nat_eq t c)) || is_cut ts a b c

-- what was found with one more piece, if it is wanted and there is room
abbrev pub found_with : Found → Bool → List ℕ → Found
found_with f wanted piece = if wanted && nat_lt f.len 3 then record { len = suc f.len; of = slice_set f.of f.len piece } else f

abbrev pub none_found : Found
none_found = record { len = 0; of = (0 ∷ 0 ∷ 0 ∷ 0 ∷ []) ∷ (0 ∷ 0 ∷ 0 ∷ 0 ∷ []) ∷ (0 ∷ 0 ∷ 0 ∷ 0 ∷ []) ∷ [] }

-- the same with the least position and the three at these places, if they are a triangle
abbrev pub found_at : List ℕ → List (List ℕ) → ℕ → ℕ → ℕ → Found → Found
found_at order triangles a b c f =
    let x = slice_index order a in let y = slice_index order b in let z = slice_index order c in
    found_with f (is_cut triangles x y z) (slice_index order 0 ∷ x ∷ y ∷ z ∷ [])

-- the least position with each of the triangles, in order: of the ten triples of later places, one after another, those that are a triangle
abbrev pub in_order_of : List ℕ → List (List ℕ) → List (List ℕ)
in_order_of o ts =
    (found_at o ts 3 4 5 (found_at o ts 2 4 5 (found_at o ts 2 3 5 (found_at o ts 2 3 4 (found_at o ts 1 4 5 (found_at o ts 1 3 5 (found_at o ts 1 3 4 (found_at o ts 1 2 5 (found_at o ts 1 2 4 (found_at o ts 1 2 3 none_found)))))))))).of
