-- Vectors whose coordinates are expressions.
use Rattle.std.specs.Prelude.{ℕ}
use Rattle.exact.specs.Polynomials.{Expression, variable, plus, times, negate}

pub record Coordinates : Type 0 where
  pub x : Expression
  pub y : Expression
  pub z : Expression

abbrev pub coordinates_from : ℕ → ℕ → ℕ → Coordinates
coordinates_from a b c = record { x = variable a; y = variable b; z = variable c }

abbrev pub less_expression : Expression → Expression → Expression
less_expression a b = plus a (negate b)

abbrev pub difference : Coordinates → Coordinates → Coordinates
difference p q = record { x = less_expression p.x q.x; y = less_expression p.y q.y; z = less_expression p.z q.z }

abbrev pub dot_expression : Coordinates → Coordinates → Expression
dot_expression p q = plus (plus (times p.x q.x) (times p.y q.y)) (times p.z q.z)

abbrev pub cross_expression : Coordinates → Coordinates → Coordinates
cross_expression p q = record { x = less_expression (times p.y q.z) (times p.z q.y); y = less_expression (times p.z q.x) (times p.x q.z); z = less_expression (times p.x q.y) (times p.y q.x) }

-- the determinant of four places, in the order of a tetrahedron's nodes
abbrev pub det_expression : Coordinates → Coordinates → Coordinates → Coordinates → Expression
det_expression a b c d = dot_expression (difference b a) (cross_expression (difference c a) (difference d a))

-- the places whose coordinates are the variables from 0, 3, 6 and 9 on
abbrev pub first : Coordinates
first = coordinates_from 0 1 2

abbrev pub second : Coordinates
second = coordinates_from 3 4 5

abbrev pub third : Coordinates
third = coordinates_from 6 7 8

abbrev pub fourth : Coordinates
fourth = coordinates_from 9 10 11
