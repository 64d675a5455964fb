-- The six shapes of lattice tetrahedra, and the tetrahedron on the other side of a face, by where the vertices stand.
use Rattle.std.specs.Prelude.{ℕ, zero, suc, ◌+◌, ◌-◌, ◌%◌, Bool, true, false, not, ◌&&◌, ◌||◌, ◌==◌, nat_le, nat_lt, List, [], ◌∷◌, length, count_by, slice_index_or, if◌then◌else◌}
use Rattle.std.specs.List.{list_all}
use Rattle.definitions.specs.declared.Vertex.{Vertex}
use Rattle.definitions.specs.Lattice.{vertex, before, are_long, are_neighbours}
use Rattle.definitions.specs.Lists.{insert_by}
use Rattle.stencil_laws.specs.Faces.{each_pair}

-- the list without its element at a place
abbrev pub without : {X : Type 0} → ℕ → List X → List X
without n [] = []
without zero (x ∷ xs) = xs
without (suc n) (x ∷ xs) = x ∷ without n xs

-- How a vertex stands from another: two more than the difference of each number, so that two means no step.
abbrev pub Standing : Type 0
Standing = Vertex

-- the vertex that stands so from u
abbrev pub stand : Vertex → Standing → Vertex
stand u o = vertex (u.h + o.h - 2) (u.y + o.y - 2) (u.x + o.x - 2)

-- how the vertices of lattice tetrahedra stand from their lowest one
abbrev pub shapes : List (List Standing)
shapes =
    (vertex 2 2 2 ∷ vertex 2 2 4 ∷ vertex 3 1 3 ∷ vertex 3 3 3 ∷ [])
    ∷ (vertex 2 2 2 ∷ vertex 2 4 2 ∷ vertex 3 3 1 ∷ vertex 3 3 3 ∷ [])
    ∷ (vertex 2 2 2 ∷ vertex 3 1 1 ∷ vertex 3 1 3 ∷ vertex 4 2 2 ∷ [])
    ∷ (vertex 2 2 2 ∷ vertex 3 1 1 ∷ vertex 3 3 1 ∷ vertex 4 2 2 ∷ [])
    ∷ (vertex 2 2 2 ∷ vertex 3 1 3 ∷ vertex 3 3 3 ∷ vertex 4 2 2 ∷ [])
    ∷ (vertex 2 2 2 ∷ vertex 3 3 1 ∷ vertex 3 3 3 ∷ vertex 4 2 2 ∷ [])
    ∷ []

abbrev pub standing_at : List Standing → ℕ → Standing
standing_at os n = slice_index_or os n (vertex 2 2 2)

-- where s comes to when it is turned about the middle of the edge from a to b
abbrev pub turned_about : Standing → Standing → Standing → Standing
turned_about a b s = vertex (a.h + b.h - s.h) (a.y + b.y - s.y) (a.x + b.x - s.x)

-- the vertex on the other side of a face: the one on this side, turned about the middle of the face's long edge
abbrev pub vertex_across : List Standing → Standing → Standing
vertex_across (a ∷ b ∷ c ∷ []) s = if are_long a b then turned_about a b s else if are_long a c then turned_about a c s else turned_about b c s
vertex_across face s = s

-- the tetrahedron on the other side of the face that lacks slot n, and the slot that the face lacks there
abbrev pub shape_across : List Standing → ℕ → List Standing
shape_across os n = insert_by before (vertex_across (without n os) (standing_at os n)) (without n os)

abbrev pub slot_across : List Standing → ℕ → ℕ
slot_across os n = count_by (λ o. before o (vertex_across (without n os) (standing_at os n))) (without n os)

-- the two stand at most two apart on each axis, and o is all even or all odd
abbrev pub stands_near : Standing → Standing → Bool
stands_near q o =
    (nat_le o.h (q.h + 2) && (nat_le q.h (o.h + 2) && (nat_le o.y (q.y + 2) && nat_le q.y (o.y + 2))))
    && (nat_le o.x (q.x + 2) && (nat_le q.x (o.x + 2) && (o.y % 2 == o.h % 2 && o.x % 2 == o.h % 2)))

abbrev pub stands_later : Standing → Standing → Bool
stands_later o p = are_neighbours o p && before o p

abbrev pub same_standing : Standing → Standing → Bool
same_standing o p = o.h == p.h && (o.y == p.y && o.x == p.x)

abbrev pub same_standings : List Standing → List Standing → Bool
same_standings [] [] = true
same_standings [] (p ∷ ps) = false
same_standings (o ∷ os) [] = false
same_standings (o ∷ os) (p ∷ ps) = same_standing o p && same_standings os ps

-- the tetrahedron across the face that lacks slot n is one, near slot m, with the same face and another vertex
abbrev pub is_across : List Standing → ℕ → ℕ → Bool
is_across os n m =
    let other = shape_across os n in
    m == n
    || ((length other == 4 && (list_all (stands_near (standing_at os m)) other && each_pair stands_later other))
    && (nat_lt (slot_across os n) 4 && (same_standings (without (slot_across os n) other) (without n os) && not (same_standings other os))))
