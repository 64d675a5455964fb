-- Boxes around the nodes of tetrahedra.
use Rattle.std.specs.Prelude.{Bool, not, ◌&&◌, ℤ, int_lt, List}
use Rattle.definitions.specs.declared.Place.{Place}
use Rattle.definitions.specs.Vectors.{place_at}

-- four numbers are above a number, and below it
abbrev pub are_above : ℤ → ℤ → ℤ → ℤ → ℤ → Bool
are_above a b c d q = ((int_lt q a && int_lt q b) && int_lt q c) && int_lt q d

abbrev pub are_below : ℤ → ℤ → ℤ → ℤ → ℤ → Bool
are_below a b c d q = ((int_lt a q && int_lt b q) && int_lt c q) && int_lt d q

-- it is neither below them nor above them
abbrev pub is_between : ℤ → ℤ → ℤ → ℤ → ℤ → Bool
is_between a b c d q = not (are_above a b c d q) && not (are_below a b c d q)

-- so on each axis
abbrev pub is_in_box : List Place → Place → Bool
is_in_box tet p =
    (is_between (place_at tet 0).x (place_at tet 1).x (place_at tet 2).x (place_at tet 3).x p.x && is_between (place_at tet 0).y (place_at tet 1).y (place_at tet 2).y (place_at tet 3).y p.y)
    && is_between (place_at tet 0).z (place_at tet 1).z (place_at tet 2).z (place_at tet 3).z p.z
