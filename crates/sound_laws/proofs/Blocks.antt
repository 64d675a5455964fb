-- Lists of which each element stands in a relation to each later one: mapped, joined from blocks, and lists of cliques, each once.
use Rattle.std.specs.Prelude.{ℕ, zero, suc, Bool, true, false, not, ◌&&◌, List, [], ◌∷◌, map, filter, flat_map}
use Rattle.std.proofs.Common.{◌≡◌, refl, sym, ap, subst, ◌∙◌, inl, inr}
use Rattle.std.specs.List.{AllByRecursion, list_all}
use Rattle.std.proofs.lemmas.Bool.{and_parts, not-true, both_ways}
use Rattle.definitions.specs.declared.Dims.{Dims}
use Rattle.definitions.specs.declared.Vertex.{Vertex}
use Rattle.definitions.specs.Lists.{cliques, each_with_later}
use Rattle.definitions.specs.Lattice.{vertices, before, are_neighbours}
use Rattle.definitions.specs.Tetrahedra.{lattice_tets, tets_from}
use Rattle.lattice_laws.specs.Ascending.{Ascends, Has}
use Rattle.lattice_laws.proofs.AscendingLists.{ascends_append, ascends_filter}
use Rattle.lattice_laws.proofs.Members.{from_append, from_flat_map, from_map, all_from_members, all_at}
use Rattle.lattice_laws.proofs.Vertices.{before_itself, vertices_ascend}
use Rattle.stencil_laws.specs.Faces.{each_pair}

-- a mapped list
pub ascends_mapped : {X Y : Type 0} (S : X → X → Type 0) (R : Y → Y → Type 0) (f : X → Y) (xs : List X) → Ascends S xs → ((x y : X) → Has x xs → Has y xs → S x y → R (f x) (f y)) → Ascends R (map f xs)
ascends_mapped S R f [] a h = tt
ascends_mapped S R f (x ∷ xs) a h = (
  all_from_members (R (f x)) (map f xs) (λ y m. let r = from_map f y xs m in subst (R (f x)) r.2 (h x r.0 (inl refl) (inr r.1) (all_at (S x) r.0 xs a.0 r.1))),
  ascends_mapped S R f xs a.1 (λ y z m k. h y z (inr m) (inr k)),
)

-- a list joined from blocks
pub ascends_blocks : {X Y : Type 0} (S : X → X → Type 0) (R : Y → Y → Type 0) (f : X → List Y) (xs : List X) → Ascends S xs → ((x : X) → Has x xs → Ascends R (f x))
    → ((x z : X) → Has x xs → Has z xs → S x z → (y w : Y) → Has y (f x) → Has w (f z) → R y w) → Ascends R (flat_map f xs)
ascends_blocks S R f [] a h k = tt
ascends_blocks S R f (x ∷ xs) a h k =
    ascends_append R (f x) (flat_map f xs) (h x (inl refl)) (ascends_blocks S R f xs a.1 (λ y m. h y (inr m)) (λ y z m n. k y z (inr m) (inr n)))
    (all_from_members (λ y. AllByRecursion (R y) (flat_map f xs)) (f x)
    (λ y m. all_from_members (R y) (flat_map f xs) (λ w n. let r = from_flat_map f w xs n in k x r.0 (inl refl) (inr r.1) (all_at (S x) r.0 xs a.0 r.1) y w m r.2)))

-- a test of each pair
pub ascends_from_test : {X : Type 0} (t : X → X → Bool) (xs : List X) → each_pair (λ x y. not (t x y)) xs ≡ true → Ascends (λ x y. t x y ≡ false) xs
ascends_from_test t [] e = tt
ascends_from_test t (x ∷ xs) e =
    let g = and_parts (list_all (λ y. not (t x y)) xs) (each_pair (λ x y. not (t x y)) xs) e in
    (all xs g.0, ascends_from_test t xs g.1)
  where
    all : (ys : List _) → list_all (λ y. not (t x y)) ys ≡ true → AllByRecursion (λ y. t x y ≡ false) ys
    all [] e = tt
    all (y ∷ ys) e = let g = and_parts (not (t x y)) (list_all (λ y. not (t x y)) ys) e in (not-true (t x y) g.0, all ys g.1)

-- ---- lists without repeats
abbrev pub Differ : {X : Type 0} → X → X → Type 0
Differ x y = x ≡ y → ⊥

same_heads : {X : Type 0} (x y : X) (c d : List X) → x ∷ c ≡ y ∷ d → (x ≡ y) × (c ≡ d)
same_heads x y c d e = (cc, cc)

from_each : {X : Type 0} (F : X → List X → List (List X)) (y : List X) (xs : List X) → Has y (each_with_later (λ x later. map (λ c. x ∷ c) (F x later)) xs) → (x : X) × Has x xs × (c : List X) × (x ∷ c ≡ y)
from_each F y [] m = absurd m
from_each F y (x ∷ xs) m = elim (from_append y (map (λ c. x ∷ c) (F x xs)) (each_with_later (λ x later. map (λ c. x ∷ c) (F x later)) xs) m) [
  | inl k ↦ (let r = from_map (λ c. x ∷ c) y (F x xs) k in (x, inl refl, r.0, r.2))
  | inr k ↦ (let r = from_each F y xs k in (r.0, inr r.1, r.2, r.3))
]

-- the cliques of a list without repeats are without repeats
cliques_differ : {X : Type 0} (R : X → X → Bool) (n : ℕ) (xs : List X) → Ascends Differ xs → Ascends Differ (cliques R n xs)
cliques_differ R zero xs a = (tt, tt)
cliques_differ R (suc n) xs a = go (cliques_differ R n) xs a
  where
    go : ((ys : List _) → Ascends Differ ys → Ascends Differ (cliques R n ys)) → (xs : List _) → Ascends Differ xs → Ascends Differ (each_with_later (λ x later. map (λ c. x ∷ c) (cliques R n (filter (R x) later))) xs)
    go ih [] a = tt
    go ih (x ∷ xs) a =
        ascends_append Differ (map (λ c. x ∷ c) (cliques R n (filter (R x) xs))) (each_with_later (λ x later. map (λ c. x ∷ c) (cliques R n (filter (R x) later))) xs)
        (ascends_mapped Differ Differ (λ c. x ∷ c) (cliques R n (filter (R x) xs)) (ih (filter (R x) xs) (ascends_filter Differ (R x) xs a.1)) (λ c d m k h e. h (same_heads x x c d e).1))
        (go ih xs a.1)
        (all_from_members (λ y. AllByRecursion (Differ y) (each_with_later (λ x later. map (λ c. x ∷ c) (cliques R n (filter (R x) later))) xs)) (map (λ c. x ∷ c) (cliques R n (filter (R x) xs)))
        (λ y m. all_from_members (Differ y) (each_with_later (λ x later. map (λ c. x ∷ c) (cliques R n (filter (R x) later))) xs)
        (λ w k e.
        (let r = from_map (λ c. x ∷ c) y (cliques R n (filter (R x) xs)) m in
        let q = from_each (λ x later. cliques R n (filter (R x) later)) w xs k in
        all_at (Differ x) q.0 xs a.0 q.1 (same_heads x q.0 r.0 q.2 (r.2 ∙ e ∙ sym q.3)).0))))

before_differ : (u v : Vertex) → before u v ≡ true → u ≡ v → ⊥
before_differ u v b e = both_ways (before u v) (ap (before u) (sym e) ∙ before_itself u) b

-- each lattice tetrahedron is listed once
pub lattice_tets_differ : (d : Dims) → Ascends Differ (lattice_tets d)
unfolding lattice_tets tets_from
lattice_tets_differ d =
    ascends_blocks (λ u v. before u v ≡ true) Differ (tets_from d) (vertices d) (vertices_ascend d)
    (λ v m. ascends_mapped Differ Differ (λ c. v ∷ c) (cliques are_neighbours 3 (filter (λ w. before v w && are_neighbours v w) (vertices d)))
    (cliques_differ are_neighbours 3 (filter (λ w. before v w && are_neighbours v w) (vertices d)) (ascends_filter Differ (λ w. before v w && are_neighbours v w) (vertices d) without_repeats))
    (λ c e m k h q. h (same_heads v v c e q).1))
    (λ u v m k b y w i j e.
    (let r = from_map (λ c. u ∷ c) y (cliques are_neighbours 3 (filter (λ w. before u w && are_neighbours u w) (vertices d))) i in
    let q = from_map (λ c. v ∷ c) w (cliques are_neighbours 3 (filter (λ w. before v w && are_neighbours v w) (vertices d))) j in
    before_differ u v b (same_heads u v r.0 q.0 (r.2 ∙ e ∙ sym q.2)).0))
  where
    without_repeats : Ascends Differ (vertices d)
    without_repeats = subst (Ascends Differ) (map_itself (vertices d)) (ascends_mapped (λ u v. before u v ≡ true) Differ (λ v. v) (vertices d) (vertices_ascend d) (λ u v m k b. before_differ u v b))
      where
        map_itself : (vs : List Vertex) → map (λ (v : Vertex). v) vs ≡ vs
        map_itself [] = refl
        map_itself (v ∷ vs) = ap (λ us. v ∷ us) (map_itself vs)
