-- Lists of triangles as they are made, tetrahedron by tetrahedron.
use Rattle.std.proofs.Common.{◌≡◌, ℕ, suc, ◌+◌, ◌*◌, ◌<◌, List, [], ◌∷◌, ◌++◌, length, take, map, slice_index, refl, sym, ap, ◌∙◌, append_assoc, arith, get_or, add-zero, length-append}
use Rattle.std.specs.Prelude.{All}
use Rattle.std.specs.List.{enumerate_from}
use Rattle.std.proofs.lemmas.List.{map-append, length-take-le, take_more, append-nil}
use Rattle.std.proofs.lemmas.List.Concat.{flat_map-append}
use Rattle.std.proofs.lemmas.List.Elements.{All-tail, All-take}
use Rattle.definitions.specs.Soundness.{triangles_of, all_triangles}
use Rattle.face_neigh.specs.declared.side.Side.{Side}
use Rattle.face_neigh.specs.Sides.{side_of, sides, sides_from}

-- the sides of one tetrahedron, each with its place
pub four_sides : (place : ℕ) (tet : List ℕ) → length tet ≡ 4 → sides_from place (triangles_of tet)
    ≡ side_of place (slice_index tet 0 ∷ slice_index tet 2 ∷ slice_index tet 1 ∷ []) ∷ side_of (place + 1) (slice_index tet 0 ∷ slice_index tet 1 ∷ slice_index tet 3 ∷ [])
    ∷ side_of (place + 2) (slice_index tet 0 ∷ slice_index tet 3 ∷ slice_index tet 2 ∷ []) ∷ side_of (place + 3) (slice_index tet 1 ∷ slice_index tet 2 ∷ slice_index tet 3 ∷ []) ∷ []
four_sides place (a ∷ b ∷ c ∷ d ∷ []) h =
    let e : place + 1 + 1 ≡ place + 2 = omega arith in
    let f : place + 1 + 1 + 1 ≡ place + 3 = omega arith in
    λ i. side_of place (a ∷ c ∷ b ∷ []) ∷ side_of (place + 1) (a ∷ b ∷ d ∷ []) ∷ side_of (e i) (a ∷ d ∷ c ∷ []) ∷ side_of (f i) (b ∷ c ∷ d ∷ []) ∷ []
four_sides place [] h = absurd (omega arith)
four_sides place (a ∷ []) h = absurd (omega arith)
four_sides place (a ∷ b ∷ []) h = absurd (omega arith)
four_sides place (a ∷ b ∷ c ∷ []) h = absurd (omega arith)
four_sides place (a ∷ b ∷ c ∷ d ∷ e ∷ tet) h = absurd (omega arith)

pub pushed_four : {X : Type 0} (xs : List X) (a b c d : X) → xs ++ a ∷ [] ++ b ∷ [] ++ c ∷ [] ++ d ∷ [] ≡ xs ++ (a ∷ b ∷ c ∷ d ∷ [])
pushed_four xs a b c d = simp append_assoc

pub four_pushed : (place : ℕ) (tet : List ℕ) → length tet ≡ 4 → (xs x1 x2 x3 : List Side) (a b c d : Side) → x1 ≡ xs ++ a ∷ [] → x2 ≡ x1 ++ b ∷ [] → x3 ≡ x2 ++ c ∷ []
    → a ≡ side_of place (slice_index tet 0 ∷ slice_index tet 2 ∷ slice_index tet 1 ∷ []) → b ≡ side_of (place + 1) (slice_index tet 0 ∷ slice_index tet 1 ∷ slice_index tet 3 ∷ [])
    → c ≡ side_of (place + 2) (slice_index tet 0 ∷ slice_index tet 3 ∷ slice_index tet 2 ∷ []) → d ≡ side_of (place + 3) (slice_index tet 1 ∷ slice_index tet 2 ∷ slice_index tet 3 ∷ [])
    → x3 ++ d ∷ [] ≡ xs ++ sides_from place (triangles_of tet)
four_pushed place tet len xs x1 x2 x3 a b c d e1 e2 e3 ea eb ec ed =
    let all : x3 ++ d ∷ [] ≡ xs ++ a ∷ [] ++ b ∷ [] ++ c ∷ [] ++ d ∷ [] = all_of in
    all ∙ (pushed_four xs a b c d ∙ ap (λ t. xs ++ t) ((λ i. ea i ∷ eb i ∷ ec i ∷ ed i ∷ []) ∙ sym (four_sides place tet len)))
  where
    all_of : x3 ++ d ∷ [] ≡ xs ++ a ∷ [] ++ b ∷ [] ++ c ∷ [] ++ d ∷ []
    all_of = ap (λ t. t ++ d ∷ []) (e3 ∙ ap (λ t. t ++ c ∷ []) (e2 ∙ ap (λ t. t ++ b ∷ []) e1))

enumerate_from-append : {X : Type 0} (from : ℕ) (xs ys : List X) → enumerate_from from (xs ++ ys) ≡ enumerate_from from xs ++ enumerate_from (from + length xs) ys
enumerate_from-append from [] ys = ap (λ n. enumerate_from n ys) (sym (add-zero from))
enumerate_from-append from (x ∷ xs) ys =
    let e : from + 1 + length xs ≡ from + suc (length xs) = omega arith in
    ap (λ t. (from, x) ∷ t) (enumerate_from-append (from + 1) xs ys ∙ ap (λ n. enumerate_from (from + 1) xs ++ enumerate_from n ys) e)

sides_from-append : (from : ℕ) (xs ys : List (List ℕ)) → sides_from from (xs ++ ys) ≡ sides_from from xs ++ sides_from (from + length xs) ys
sides_from-append from xs ys = ap (map (λ (e : ℕ × List ℕ). side_of e.0 e.1)) (enumerate_from-append from xs ys) ∙ map-append (λ (e : ℕ × List ℕ). side_of e.0 e.1) (enumerate_from from xs) (enumerate_from (from + length xs) ys)

pub length-triangles_of : (tet : List ℕ) → length tet ≡ 4 → length (triangles_of tet) ≡ 4
length-triangles_of (a ∷ b ∷ c ∷ d ∷ []) h = refl
length-triangles_of [] h = absurd (omega arith)
length-triangles_of (a ∷ []) h = absurd (omega arith)
length-triangles_of (a ∷ b ∷ []) h = absurd (omega arith)
length-triangles_of (a ∷ b ∷ c ∷ []) h = absurd (omega arith)
length-triangles_of (a ∷ b ∷ c ∷ d ∷ e ∷ tet) h = absurd (omega arith)

-- four triangles a tetrahedron
pub length-all_triangles : (tets : List (List ℕ)) → All (λ t. length t ≡ 4) tets → length (all_triangles tets) ≡ 4 * length tets
length-all_triangles [] h = refl
length-all_triangles (tet ∷ tets) h =
    let a = length-append (triangles_of tet) (all_triangles tets) in
    let b = length-triangles_of tet (h 0 [] (omega arith)) in
    let c = length-all_triangles tets (All-tail (λ t. length t ≡ 4) tet tets h) in
    omega arith

-- the triangles of one more tetrahedron
pub sides_more : (tets : List (List ℕ)) (n : ℕ) (tet : List ℕ) → All (λ t. length t ≡ 4) tets → n < length tets → tet ≡ get_or tets n [] → sides (take n tets) ++ sides_from (4 * n) (triangles_of tet) ≡ sides (take (n + 1) tets)
unfolding sides
sides_more tets n tet four lt is =
    let l : length (all_triangles (take n tets)) ≡ 4 * n = length-all_triangles (take n tets) (All-take (λ t. length t ≡ 4) n tets four) ∙ ap (λ k. 4 * k) (length-take-le n tets (omega arith)) in
    let e : 4 * n ≡ 0 + length (all_triangles (take n tets)) = omega arith in
    let more : all_triangles (take (n + 1) tets) ≡ all_triangles (take n tets) ++ triangles_of (get_or tets n []) =
    ap all_triangles (take_more tets n [] lt) ∙ (flat_map-append triangles_of (take n tets) (get_or tets n [] ∷ []) ∙ ap (λ t. all_triangles (take n tets) ++ t) (append-nil (triangles_of (get_or tets n [])))) in
    ap (λ k. sides_from 0 (all_triangles (take n tets)) ++ sides_from k (triangles_of tet)) e
    ∙ (ap (λ t. sides_from 0 (all_triangles (take n tets)) ++ sides_from (0 + length (all_triangles (take n tets))) (triangles_of t)) is
    ∙ (sym (sides_from-append 0 (all_triangles (take n tets)) (triangles_of (get_or tets n []))) ∙ ap (sides_from 0) (sym more)))
