-- The neighbours of a vertex that is no padding are in the domain, and so are the lattice tetrahedra around it.
use Rattle.std.proofs.Common.{inl, inr, ◌⊎◌, ◌≡◌, ℕ, ◌+◌, ◌%◌, ◌<◌, true, ◌&&◌, ◌||◌, ◌==◌, length, get_or, sym, ◌∙◌, subst, arith}
use Rattle.std.proofs.lemmas.Bool.{cases_lt, eqb-true, and_parts, or_cases}
use Rattle.std.proofs.lemmas.List.{get_or_default}
use Rattle.std.proofs.Math.Nat.{eq-or-lt_of_le}
use Rattle.definitions.specs.declared.Dims.{Dims}
use Rattle.definitions.specs.declared.Vertex.{Vertex}
use Rattle.definitions.specs.Lattice.{InDomain, are_neighbours, are_long, are_short, apart, vertex}
use Rattle.definitions.specs.Pieces.{slot}
use Rattle.lattice_laws.specs.NumberedTetrahedra.{IsInner}
use Rattle.lattice_laws.proofs.Directions.{neighbours_close}
use Rattle.lattice_laws.proofs.EdgeTetrahedra.{neighbours_sym}
use Rattle.face_laws.specs.Laws.{StarsAreWhole}

-- two apart keeps odd and even, one apart changes them
two_alike : (a b : ℕ) → apart 2 a b ≡ true → a % 2 ≡ b % 2
two_alike a b h = go (or_cases (a == b + 2) (b == a + 2) h)
  where
    go : ((a == b + 2) ≡ true) ⊎ ((b == a + 2) ≡ true) → a % 2 ≡ b % 2
    go (inl e) = let f = eqb-true a (b + 2) e in omega arith
    go (inr e) = let f = eqb-true b (a + 2) e in omega arith

one_unlike : (a b : ℕ) → apart 1 a b ≡ true → a % 2 + b % 2 ≡ 1
one_unlike a b h = go (or_cases (a == b + 1) (b == a + 1) h)
  where
    go : ((a == b + 1) ≡ true) ⊎ ((b == a + 1) ≡ true) → a % 2 + b % 2 ≡ 1
    go (inl e) = let f = eqb-true a (b + 1) e in omega arith
    go (inr e) = let f = eqb-true b (a + 1) e in omega arith

same_alike : (a b : ℕ) → (a == b) ≡ true → a % 2 ≡ b % 2
same_alike a b h = let e = eqb-true a b h in omega arith

-- what becomes of odd and even
record Alike (u w : Vertex) : Type 0 where
  y : u.y % 2 ≡ u.h % 2 → w.y % 2 ≡ w.h % 2
  x : u.x % 2 ≡ u.h % 2 → w.x % 2 ≡ w.h % 2

all_same : (u w : Vertex) → u.h % 2 ≡ w.h % 2 → u.y % 2 ≡ w.y % 2 → u.x % 2 ≡ w.x % 2 → Alike u w
all_same u w a b c = record { y = λ e. sym b ∙ e ∙ a; x = λ e. sym c ∙ e ∙ a }

alike : (u w : Vertex) → are_neighbours u w ≡ true → Alike u w
alike u w n = go (or_cases (are_long u w) (are_short u w) n)
  where
    long : ((apart 2 u.h w.h && (u.y == w.y && u.x == w.x)) ≡ true) ⊎ (((u.h == w.h && (apart 2 u.y w.y && u.x == w.x)) || (u.h == w.h && (u.y == w.y && apart 2 u.x w.x))) ≡ true) → Alike u w
    long (inl e) =
        let s = and_parts (apart 2 u.h w.h) _ e in
        let t = and_parts (u.y == w.y) _ s.1 in
        all_same u w (two_alike u.h w.h s.0) (same_alike u.y w.y t.0) (same_alike u.x w.x t.1)
    long (inr e) = elim (or_cases (u.h == w.h && (apart 2 u.y w.y && u.x == w.x)) _ e) [
      | inl f ↦ (let s = and_parts (u.h == w.h) _ f in let t = and_parts (apart 2 u.y w.y) _ s.1 in all_same u w (same_alike u.h w.h s.0) (two_alike u.y w.y t.0) (same_alike u.x w.x t.1))
      | inr f ↦ (let s = and_parts (u.h == w.h) _ f in let t = and_parts (u.y == w.y) _ s.1 in all_same u w (same_alike u.h w.h s.0) (same_alike u.y w.y t.0) (two_alike u.x w.x t.1))
    ]

    go : (are_long u w ≡ true) ⊎ (are_short u w ≡ true) → Alike u w
    go (inl e) = long (or_cases (apart 2 u.h w.h && (u.y == w.y && u.x == w.x)) _ e)
    go (inr e) =
        let s = and_parts (apart 1 u.h w.h) _ e in
        let t = and_parts (apart 1 u.y w.y) _ s.1 in
        let a = one_unlike u.h w.h s.0 in
        let b = one_unlike u.y w.y t.0 in
        let c = one_unlike u.x w.x t.1 in
        record { y = λ f. omega arith; x = λ f. omega arith }

-- a neighbour of a vertex that is no padding is in the domain
pub neighbour_inside : (d : Dims) (u w : Vertex) → InDomain d u → IsInner d u → are_neighbours u w ≡ true → InDomain d w
neighbour_inside d u w k i n =
    let c = neighbours_close u w n in
    let p = alike u w n in
    let a = c.by_h.up in let b = c.by_y.up in let e = c.by_x.up in
    let f = i.h_high in let g = i.y_high in let h = i.x_high in
    record { h_below = omega arith; y_below = omega arith; x_below = omega arith; y_alike = p.y k.y_alike; x_alike = p.x k.x_alike }

pub stars_are_whole : StarsAreWhole
stars_are_whole d tet m four ordered neighbours lm inside inner = record {
  four = four;
  within = λ n e lt. subst (InDomain d) (same_default n e lt) (at n lt);
  ordered = ordered;
  neighbours = neighbours;
}
  where
    same_default : (n : ℕ) (e : Vertex) → n < length tet → slot tet n ≡ get_or tet n e
    same_default n e lt = get_or_default tet n (vertex 0 0 0) e lt

    at : (n : ℕ) → n < length tet → InDomain d (slot tet n)
    at n lt = elim (cases_lt n m) [
      | inl l ↦ neighbour_inside d (slot tet m) (slot tet n) inside inner (neighbours_sym (slot tet m) (slot tet n) ∙ neighbours n m (vertex 0 0 0) l (omega arith))
      | inr g ↦ elim (eq-or-lt_of_le g) [
        | inl e ↦ subst (λ k. InDomain d (slot tet k)) e inside
        | inr l ↦ neighbour_inside d (slot tet m) (slot tet n) inside inner (neighbours m n (vertex 0 0 0) l lt)
      ]
    ]
