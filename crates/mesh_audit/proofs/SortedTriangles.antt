-- What stands out among sorted triangles, said of the tetrahedra that they are of.
use Rattle.std.proofs.Common.{◌≡◌, ℕ, ◌+◌, ◌*◌, ◌^◌, ◌<◌, ◌≤◌, List, [], ◌∷◌, ◌++◌, length, map, get_or, Bool, true, false, ◌&&◌, eqb, ltb, cond, Option, Some, None, IfSome, refl, sym, ap, ◌∙◌, subst, arith}
use Rattle.std.proofs.lemmas.Bool.{ltb-true, ltb-false, eq-eqb, and_right}
use Rattle.std.proofs.lemmas.List.{length-map, length-append, get_or-map, map-append}
use Rattle.std.proofs.lemmas.List.Elements.{All-append, All-nil, All-head, All-tail}
use Rattle.std.proofs.lemmas.List.Sorted.{All-permutation, IsPermutation-sym, sum_by-IsPermutation}
use Rattle.std.proofs.lemmas.List.Sums.{length-filter, count_by-le-length, sum_by-le-sum_by}
use Rattle.std.proofs.lemmas.List.Quantifiers.{position-Some}
use Rattle.std.specs.List.{All, count_by, position}
use Rattle.std.specs.List.Sorted.{IsPermutation}
use Rattle.definitions.specs.declared.Place.{Place}
use Rattle.definitions.specs.Soundness.{triangles_of, all_triangles, tets_at_triangle, same_nodes, boundary}
use Rattle.mesh_audit.specs.declared.triangles.Triangle.{Triangle}
use Rattle.mesh_files.specs.Verdicts.{same_direction, tets_in_direction, is_crowded, is_turned, is_positive}
use Rattle.mesh_audit.specs.Triangles.{key_of, triangle_of, triangles_from, alike, is_one_of_many, is_turned_pair, is_alone, LeastTet, AreTriangles, IsPlain}
use Rattle.mesh_audit.proofs.Counts.{count_agree, count_map}
use Rattle.mesh_audit.proofs.Keys.{same_key, direction_key}
use Rattle.mesh_audit.proofs.Directions.{directed_as}
use Rattle.mesh_audit.proofs.LeastTets.{least_permuted, least_agrees}
use Rattle.mesh_audit.proofs.FirstTets.{of_nodes, least_is_first}
use Rattle.mesh_audit.proofs.FlatTets.{plain_triangles}

abbrev nodes_in : Triangle → List ℕ
nodes_in t = t.nodes

numbered : (i : ℕ) (xs : List (List ℕ)) → map nodes_in (map (triangle_of i) xs) ≡ xs
numbered i [] = refl
numbered i (x ∷ xs) = ap (λ ys. x ∷ ys) (numbered i xs)

-- the nodes of the numbered triangles are all triangles
pub all_nodes : (i : ℕ) (ts : List (List ℕ)) → map nodes_in (triangles_from i ts) ≡ all_triangles ts
all_nodes i [] = refl
all_nodes i (t ∷ ts) = map-append nodes_in (map (triangle_of i) (triangles_of t)) (triangles_from (i + 1) ts) ∙ (λ k. numbered i (triangles_of t) k ++ all_nodes (i + 1) ts k)

all_from_map : {X Y : Type 0} (P : Y → Type 0) (f : X → Y) (xs : List X) → All P (map f xs) → All (λ x. P (f x)) xs
all_from_map P f xs all k d lt =
    let below : k < length (map f xs) = omega (arith, lt, length-map xs f) in
    subst P (get_or-map f xs k d (f d) lt) (all k (f d) below)

-- the triangles of positive tetrahedra are plain
pub all_plain : (places : List Place) (ts : List (List ℕ)) → All (λ t. length t ≡ 4) ts → All (λ t. is_positive places t ≡ true) ts → All (All (λ n. n < 2 ^ 32)) ts → All IsPlain (all_triangles ts)
all_plain places [] four positive fits = All-nil IsPlain
all_plain places (t ∷ ts) four positive fits =
    All-append IsPlain (triangles_of t) (all_triangles ts)
    (plain_triangles places t (All-head (λ u. length u ≡ 4) t ts four) (All-head (λ u. is_positive places u ≡ true) t ts positive) (All-head (All (λ n. n < 2 ^ 32)) t ts fits))
    (all_plain places ts (All-tail (λ u. length u ≡ 4) t ts four) (All-tail (λ u. is_positive places u ≡ true) t ts positive) (All-tail (All (λ n. n < 2 ^ 32)) t ts fits))

abbrev entries : List (List ℕ) → List Triangle
entries ts = triangles_from 0 ts

plain_entries : (ts : List (List ℕ)) → All IsPlain (all_triangles ts) → All (λ t. IsPlain t.nodes) (entries ts)
plain_entries ts plain = all_from_map IsPlain nodes_in (entries ts) (subst (All IsPlain) (sym (all_nodes 0 ts)) plain)

three_of_plain : (t : List ℕ) → IsPlain t → length t ≡ 3
three_of_plain t p = ap length p.is

-- sorted triangles have three nodes each
pub three_nodes : (ts : List (List ℕ)) (sorted : List Triangle) → All IsPlain (all_triangles ts) → IsPermutation (entries ts) sorted → AreTriangles sorted
three_nodes ts sorted plain move = All-permutation (λ t. length t.nodes ≡ 3) (entries ts) sorted move (λ k d lt. three_of_plain _ (plain_entries ts plain k d lt))

count_moved : (p : Triangle → Bool) (xs ys : List Triangle) → IsPermutation xs ys → count_by p xs ≡ count_by p ys
count_moved p xs ys move = sym (sum_by-IsPermutation (λ t. cond (p t) 1 0) xs ys move)

-- a count over all triangles is one over the sorted ones
counted : (p : List ℕ → Bool) (ts : List (List ℕ)) (sorted : List Triangle) → IsPermutation (entries ts) sorted → count_by p (all_triangles ts) ≡ count_by (of_nodes p) sorted
counted p ts sorted move = ap (count_by p) (sym (all_nodes 0 ts)) ∙ count_map p nodes_in (entries ts) ∙ count_moved (of_nodes p) (entries ts) sorted move

-- how many tetrahedra a triangle is in
pub tets_at : (ts : List (List ℕ)) (sorted : List Triangle) → All IsPlain (all_triangles ts) → IsPermutation (entries ts) sorted → All (λ t. tets_at_triangle ts t.nodes ≡ alike sorted t) (entries ts)
tets_at ts sorted plain move k d lt = go (get_or (entries ts) k d) (plain_entries ts plain k d lt)
  where
    go : (t : Triangle) → IsPlain t.nodes → tets_at_triangle ts t.nodes ≡ alike sorted t
    go t p =
        ap (count_by (same_nodes t.nodes)) (sym (all_nodes 0 ts)) ∙ count_map (same_nodes t.nodes) nodes_in (entries ts)
        ∙ count_agree (λ x. same_nodes t.nodes x.nodes) (λ x. eqb (key_of x.nodes) (key_of t.nodes)) (entries ts) (λ j e l. same_key t.nodes _ p (plain_entries ts plain j e l))
        ∙ count_moved (λ x. eqb (key_of x.nodes) (key_of t.nodes)) (entries ts) sorted move

in_direction : (ts : List (List ℕ)) (sorted : List Triangle) → IsPermutation (entries ts) sorted → (t : Triangle) → tets_in_direction ts t.nodes ≡ directed_as sorted t
in_direction ts sorted move t = counted (same_direction t.nodes) ts sorted move

abbrev many : List (List ℕ) → List ℕ → Bool
many ts t = ltb 2 (tets_at_triangle ts t)

abbrev turned : List (List ℕ) → List ℕ → Bool
turned ts t = ltb 1 (tets_in_direction ts t)

pub first_crowded : (ts : List (List ℕ)) (sorted : List Triangle) (o : Option ℕ) → All IsPlain (all_triangles ts) → IsPermutation (entries ts) sorted → LeastTet (is_one_of_many sorted) sorted o → o ≡ position (is_crowded ts) ts
unfolding is_crowded
first_crowded ts sorted o plain move h =
    least_is_first (many ts) ts o
    (least_agrees (is_one_of_many sorted) (of_nodes (many ts)) (entries ts) o (λ k d lt. ap (ltb 2) (sym (tets_at ts sorted plain move k d lt)))
    (least_permuted (is_one_of_many sorted) sorted (entries ts) o (IsPermutation-sym (entries ts) sorted move) h))

fewer_directed : (sorted : List Triangle) (t : Triangle) → directed_as sorted t ≤ alike sorted t
fewer_directed sorted t = sum_by-le-sum_by (λ x. cond (same_direction t.nodes x.nodes) 1 0) (λ x. cond (eqb (key_of x.nodes) (key_of t.nodes)) 1 0) sorted (λ x. one x (same_direction t.nodes x.nodes) refl)
  where
    one : (x : Triangle) (b : Bool) → same_direction t.nodes x.nodes ≡ b → cond (same_direction t.nodes x.nodes) 1 0 ≤ cond (eqb (key_of x.nodes) (key_of t.nodes)) 1 0
    one x true e =
        let k : eqb (key_of x.nodes) (key_of t.nodes) ≡ true = eq-eqb _ _ (sym (direction_key t.nodes x.nodes e)) in
        both (cond (same_direction t.nodes x.nodes) 1 0) (cond (eqb (key_of x.nodes) (key_of t.nodes)) 1 0) (ap (λ (c : Bool). cond c 1 0) e) (ap (λ (c : Bool). cond c 1 0) k)
      where
        both : (m n : ℕ) → m ≡ 1 → n ≡ 1 → m ≤ n
        both m n e f = omega arith
    one x false e = none (cond (same_direction t.nodes x.nodes) 1 0) (cond (eqb (key_of x.nodes) (key_of t.nodes)) 1 0) (ap (λ (c : Bool). cond c 1 0) e)
      where
        none : (m n : ℕ) → m ≡ 0 → m ≤ n
        none m n e = omega arith

turned_test : (n d : ℕ) → d ≤ n → ltb 2 n ≡ false → (eqb n 2 && ltb 1 d) ≡ ltb 1 d
turned_test n d le few = by_test (ltb 1 d) refl
  where
    by_test : (b : Bool) → ltb 1 d ≡ b → (eqb n 2 && ltb 1 d) ≡ ltb 1 d
    by_test true e =
        let two : n ≡ 2 = omega (arith, ltb-true _ _ e, ltb-false _ _ few) in
        ap (λ b. b && ltb 1 d) (eq-eqb n 2 two)
    by_test false e = and_right (eqb n 2) (ltb 1 d) e ∙ sym e

pub first_turned : (ts : List (List ℕ)) (sorted : List Triangle) (o : Option ℕ) → All IsPlain (all_triangles ts) → IsPermutation (entries ts) sorted → LeastTet (is_one_of_many sorted) sorted None → LeastTet (is_turned_pair sorted) sorted o → o ≡ position (is_turned ts) ts
unfolding is_turned
first_turned ts sorted o plain move few h =
    least_is_first (turned ts) ts o
    (least_agrees (is_turned_pair sorted) (of_nodes (turned ts)) (entries ts) o (λ k d lt. agrees (get_or (entries ts) k d) (few_entries k d lt))
    (least_permuted (is_turned_pair sorted) sorted (entries ts) o (IsPermutation-sym (entries ts) sorted move) h))
  where
    few_entries : All (λ t. is_one_of_many sorted t ≡ false) (entries ts)
    few_entries = All-permutation (λ t. is_one_of_many sorted t ≡ false) sorted (entries ts) (IsPermutation-sym (entries ts) sorted move) few

    agrees : (t : Triangle) → is_one_of_many sorted t ≡ false → is_turned_pair sorted t ≡ of_nodes (turned ts) t
    agrees t f = turned_test (alike sorted t) (directed_as sorted t) (fewer_directed sorted t) f ∙ ap (ltb 1) (sym (in_direction ts sorted move t))

pub boundary_length : (ts : List (List ℕ)) (sorted : List Triangle) → All IsPlain (all_triangles ts) → IsPermutation (entries ts) sorted → length (boundary ts) ≡ count_by (is_alone sorted) sorted
boundary_length ts sorted plain move =
    length-filter (λ t. eqb (tets_at_triangle ts t) 1) (all_triangles ts)
    ∙ ap (count_by (λ t. eqb (tets_at_triangle ts t) 1)) (sym (all_nodes 0 ts)) ∙ count_map (λ t. eqb (tets_at_triangle ts t) 1) nodes_in (entries ts)
    ∙ count_agree (λ x. eqb (tets_at_triangle ts x.nodes) 1) (is_alone sorted) (entries ts) (λ k d lt. ap (λ n. eqb n 1) (tets_at ts sorted plain move k d lt))
    ∙ count_moved (is_alone sorted) (entries ts) sorted move

few_triangles : (t : List ℕ) → length (triangles_of t) ≤ 4
few_triangles [] = omega arith
few_triangles (a ∷ []) = omega arith
few_triangles (a ∷ b ∷ []) = omega arith
few_triangles (a ∷ b ∷ c ∷ []) = omega arith
few_triangles (a ∷ b ∷ c ∷ d ∷ []) = omega arith
few_triangles (a ∷ b ∷ c ∷ d ∷ e ∷ t) = omega arith

few_in_all : (ts : List (List ℕ)) → length (all_triangles ts) ≤ 4 * length ts
few_in_all [] = omega arith
few_in_all (t ∷ ts) = let h = few_in_all ts in omega (arith, length-append (triangles_of t) (all_triangles ts), few_triangles t)

pub few_boundary : (ts : List (List ℕ)) → length (boundary ts) ≤ 4 * length ts
few_boundary ts = omega (arith, few_in_all ts, length-filter (λ t. eqb (tets_at_triangle ts t) 1) (all_triangles ts), count_by-le-length (λ t. eqb (tets_at_triangle ts t) 1) (all_triangles ts))

pub within_tets : (p : List ℕ → Bool) (ts : List (List ℕ)) (o : Option ℕ) → o ≡ position p ts → IfSome o (λ i. i < length ts)
within_tets p ts None e = tt
within_tets p ts (Some i) e = (position-Some p ts i [] (sym e)).0
