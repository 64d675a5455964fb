-- The least tetrahedron with a triangle that passes is the first with one.
use Rattle.std.proofs.Common.{◌≡◌, ◌⊎◌, inl, inr, ℕ, ◌+◌, ◌<◌, ◌≤◌, List, [], ◌∷◌, length, map, Bool, true, false, not, cond, ltb, Option, Some, None, refl, sym, ap, ◌∙◌, subst, arith}
use Rattle.std.proofs.lemmas.Bool.{or_cases, or_parts, ltb-true, lt-ltb, le-ltb, ltb-false}
use Rattle.std.proofs.lemmas.List.Elements.{All-nil, All-cons, All-append, All-weaker, Contains-append_left, Contains-append_right, All-map}
use Rattle.std.proofs.lemmas.List.{length-map, get_or-map}
use Rattle.std.specs.List.{All, Contains, list_any, position, position_or_len, prefix_len}
use Rattle.definitions.specs.Soundness.{triangles_of}
use Rattle.mesh_audit.specs.declared.triangles.Triangle.{Triangle}
use Rattle.mesh_audit.specs.Triangles.{triangle_of, triangles_from, LeastTet}
use Rattle.mesh_audit.proofs.LeastTets.{least_none, least_behind, least_unique}

abbrev pub shifted : ℕ → Option ℕ → Option ℕ
shifted i None = None
shifted i (Some n) = Some (i + n)

record Passing {X : Type 0} (q : X → Bool) (xs : List X) : Type 0 where
  one : X
  there : Contains xs one
  passes : q one ≡ true

passing : {X : Type 0} (q : X → Bool) (xs : List X) → list_any q xs ≡ true → Passing q xs
passing q [] h = cc
passing {X} q (x ∷ xs) h = go (or_cases (q x) (list_any q xs) h) (passing q xs)
  where
    go : (q x ≡ true) ⊎ (list_any q xs ≡ true) → (list_any q xs ≡ true → Passing q xs) → Passing q (x ∷ xs)
    go (inl e) more = record { one = x; there = (0, omega arith, refl); passes = e }
    go (inr e) more = let p = more e in record { one = p.one; there = Contains-append_right (x ∷ []) xs p.one p.there; passes = p.passes }

pub none_passes : {X : Type 0} (q : X → Bool) (xs : List X) → list_any q xs ≡ false → All (λ x. q x ≡ false) xs
none_passes q [] h = All-nil (λ x. q x ≡ false)
none_passes q (x ∷ xs) h = let p = or_parts (q x) (list_any q xs) h in All-cons (λ y. q y ≡ false) x xs p.0 (none_passes q xs p.1)

has_fields : (i : ℕ) (xs : List (List ℕ)) (x : List ℕ) → Contains xs x → Contains (map (triangle_of i) xs) (triangle_of i x)
has_fields i xs x h =
    let lt : h.0 < length (map (triangle_of i) xs) = omega (arith, h.1, length-map xs (triangle_of i)) in
    (h.0, lt, get_or-map (triangle_of i) xs h.0 x (triangle_of i x) h.1 ∙ ap (triangle_of i) h.2)

front_tets : (i : ℕ) (xs : List (List ℕ)) → All (λ t. i ≤ t.tet) (map (triangle_of i) xs)
front_tets i xs = All-map (λ (t : Triangle). i ≤ t.tet) (triangle_of i) xs (λ k d lt. omega arith)

later_tets : (i : ℕ) (ts : List (List ℕ)) → All (λ t. i ≤ t.tet) (triangles_from i ts)
later_tets i [] = All-nil (λ (t : Triangle). i ≤ t.tet)
later_tets i (t ∷ ts) = All-append (λ (u : Triangle). i ≤ u.tet) (map (triangle_of i) (triangles_of t)) (triangles_from (i + 1) ts) (front_tets i (triangles_of t))
    (All-weaker (λ (u : Triangle). i + 1 ≤ u.tet) (λ (u : Triangle). i ≤ u.tet) (λ u h. omega arith) (triangles_from (i + 1) ts) (later_tets (i + 1) ts))

position_here : {X : Type 0} (p : X → Bool) (x : X) (xs : List X) → p x ≡ true → position p (x ∷ xs) ≡ Some 0
position_here p x xs h =
    let e : position_or_len p (x ∷ xs) ≡ 0 = ap (λ b. cond (not b) (1 + prefix_len (λ y. not (p y)) xs) 0) h in
    let t : ltb (position_or_len p (x ∷ xs)) (length (x ∷ xs)) ≡ true = lt-ltb (position_or_len p (x ∷ xs)) (length (x ∷ xs)) (omega arith) in
    ap (λ b. cond b (Some (position_or_len p (x ∷ xs))) None) t ∙ ap Some e

position_later : {X : Type 0} (p : X → Bool) (x : X) (xs : List X) → p x ≡ false → position p (x ∷ xs) ≡ shifted 1 (position p xs)
position_later p x xs h = by_test (ltb (position_or_len p xs) (length xs)) refl
  where
    e : position_or_len p (x ∷ xs) ≡ 1 + position_or_len p xs
    e = ap (λ b. cond (not b) (1 + prefix_len (λ y. not (p y)) xs) 0) h

    by_test : (b : Bool) → ltb (position_or_len p xs) (length xs) ≡ b → position p (x ∷ xs) ≡ shifted 1 (position p xs)
    by_test true t =
        let below : position_or_len p xs < length xs = ltb-true _ _ t in
        let u : ltb (position_or_len p (x ∷ xs)) (length (x ∷ xs)) ≡ true = lt-ltb (position_or_len p (x ∷ xs)) (length (x ∷ xs)) (omega (arith, e, below)) in
        ap (λ b. cond b (Some (position_or_len p (x ∷ xs))) None) u ∙ ap Some e ∙ ap (λ b. shifted 1 (cond b (Some (position_or_len p xs)) None)) (sym t)
    by_test false t =
        let above : length xs ≤ position_or_len p xs = ltb-false _ _ t in
        let u : ltb (position_or_len p (x ∷ xs)) (length (x ∷ xs)) ≡ false = le-ltb (position_or_len p (x ∷ xs)) (length (x ∷ xs)) (omega (arith, e, above)) in
        ap (λ b. cond b (Some (position_or_len p (x ∷ xs))) None) u ∙ ap (λ b. shifted 1 (cond b (Some (position_or_len p xs)) None)) (sym t)

shift_twice : (i : ℕ) (o : Option ℕ) → shifted (i + 1) o ≡ shifted i (shifted 1 o)
shift_twice i None = refl
shift_twice i (Some n) = let e : i + 1 + n ≡ i + (1 + n) = omega arith in ap Some e

-- the test of a tetrahedron by its triangles
abbrev pub with_one : (List ℕ → Bool) → List ℕ → Bool
with_one q t = list_any q (triangles_of t)

abbrev pub of_nodes : (List ℕ → Bool) → Triangle → Bool
of_nodes q t = q t.nodes

is_first : (q : List ℕ → Bool) (i : ℕ) (ts : List (List ℕ)) → LeastTet (of_nodes q) (triangles_from i ts) (shifted i (position (with_one q) ts))
is_first q i [] = least_none (of_nodes q)
is_first q i (t ∷ ts) = by_test (with_one q t) refl (is_first q (i + 1) ts)
  where
    here : with_one q t ≡ true → LeastTet (of_nodes q) (triangles_from i (t ∷ ts)) (Some (i + 0))
    here h =
        let p = passing q (triangles_of t) h in
        let zero_more : i ≡ i + 0 = omega arith in
        record {
          one = record {
            triangle = triangle_of i p.one;
            there = Contains-append_left (map (triangle_of i) (triangles_of t)) (triangles_from (i + 1) ts) (triangle_of i p.one) (has_fields i (triangles_of t) p.one p.there);
            passes = p.passes;
            number = zero_more;
          };
          least = All-weaker (λ (u : Triangle). i ≤ u.tet) (λ (u : Triangle). of_nodes q u ≡ true → i + 0 ≤ u.tet) (λ u h e. omega arith) (triangles_from i (t ∷ ts)) (later_tets i (t ∷ ts));
        }

    later : with_one q t ≡ false → LeastTet (of_nodes q) (triangles_from (i + 1) ts) (shifted (i + 1) (position (with_one q) ts)) → LeastTet (of_nodes q) (triangles_from i (t ∷ ts)) (shifted i (shifted 1 (position (with_one q) ts)))
    later h rest =
        subst (LeastTet (of_nodes q) (triangles_from i (t ∷ ts))) (shift_twice i (position (with_one q) ts))
        (least_behind (of_nodes q) (map (triangle_of i) (triangles_of t)) (triangles_from (i + 1) ts) (shifted (i + 1) (position (with_one q) ts))
        (All-map (λ (u : Triangle). of_nodes q u ≡ false) (triangle_of i) (triangles_of t) (none_passes q (triangles_of t) h)) rest)

    by_test : (b : Bool) → with_one q t ≡ b → LeastTet (of_nodes q) (triangles_from (i + 1) ts) (shifted (i + 1) (position (with_one q) ts)) → LeastTet (of_nodes q) (triangles_from i (t ∷ ts)) (shifted i (position (with_one q) (t ∷ ts)))
    by_test true h rest = subst (λ o. LeastTet (of_nodes q) (triangles_from i (t ∷ ts)) (shifted i o)) (sym (position_here (with_one q) t ts h)) (here h)
    by_test false h rest = subst (λ o. LeastTet (of_nodes q) (triangles_from i (t ∷ ts)) (shifted i o)) (sym (position_later (with_one q) t ts h)) (later h rest)

shift_none : (o : Option ℕ) → shifted 0 o ≡ o
shift_none None = refl
shift_none (Some n) = let e : 0 + n ≡ n = omega arith in ap Some e

-- the least number is the place of the first tetrahedron that passes
pub least_is_first : (q : List ℕ → Bool) (ts : List (List ℕ)) (o : Option ℕ) → LeastTet (of_nodes q) (triangles_from 0 ts) o → o ≡ position (with_one q) ts
least_is_first q ts o h = least_unique (of_nodes q) (triangles_from 0 ts) o (shifted 0 (position (with_one q) ts)) h (is_first q 0 ts) ∙ shift_none (position (with_one q) ts)
