-- A row of corners along x, by what is the same in all of it: where its nearest samples start, and whether it runs through the image.
use Rattle.std.specs.Prelude.{ℕ, ◌+◌, ◌*◌, max, Bool, ◌&&◌, ℤ, pos, ◌+ℤ◌, neg_ℤ, unsigned_abs, slice_index_or, if◌then◌else◌}
use Rattle.definitions.specs.declared.Dims.{Dims}
use Rattle.definitions.specs.Values.{Field, is_inside, nearest, corner_difference}

-- where the samples nearest to the row of corners (j, k) start
abbrev pub row_start : Dims → ℕ → ℕ → ℕ
row_start d j k = (nearest d.nz k * d.ny + nearest d.ny j) * d.nx

-- the row runs through the image
abbrev pub is_row_inside : Dims → ℕ → ℕ → Bool
is_row_inside d j k = is_inside d.ny j && is_inside d.nz k

-- the difference at corner i of a row that has its nearest samples from `start` on
unfoldable pub difference_along : Field → ℕ → Bool → ℕ → ℤ
difference_along f start inside i =
    let near = slice_index_or f.differences (start + nearest f.dims.nx i) (pos 0) in
    if is_inside f.dims.nx i && inside then near else neg_ℤ (pos (max 1 (unsigned_abs near)))

-- the sum over the two corners of an edge along y
abbrev pub edge_sum : Field → ℕ → ℕ → ℕ → ℤ
edge_sum f i j k = corner_difference f i j k +ℤ corner_difference f i (j + 1) k

-- the sum over the four corners of a side of a cube, which have the number i on the x axis
abbrev pub side_sum : Field → ℕ → ℕ → ℕ → ℤ
side_sum f i j k = edge_sum f i j k +ℤ edge_sum f i j (k + 1)
