-- Each piece of a lattice tetrahedron has a node at its lowest vertex or on an edge upwards from it. So where none of these
-- is a node of the mesh, the tetrahedron has no piece.
use Rattle.std.proofs.Common.{◌≡◌, ℕ, suc, ◌+◌, ◌*◌, ◌<◌, ◌≤◌, ◌==◌, arith, refl, sym, ◌∙◌, ap, subst, inl, inr, Bool, true, false, ◌&&◌, cond, List, [], ◌∷◌, ◌++◌, map, length, get_or, Some, eq-eqb, eqb-true, drop}
use Rattle.std.specs.Prelude.{if◌then◌else◌, filter, flat_map, int_lt, pos, unwrap_or}
use Rattle.std.specs.List.{list_all, list_any, position_from}
use Rattle.std.proofs.lemmas.List.{length-map}
use Rattle.std.proofs.lemmas.List.FromFn.{get_or-range_with_len, length-range_with_len}
use Rattle.std.proofs.lemmas.List.Folds.{list_any_at}
use Rattle.std.proofs.lemmas.Bool.{and_parts, both_ways, or_left}
use Rattle.definitions.specs.declared.Dims.{Dims}
use Rattle.definitions.specs.declared.Vertex.{Vertex}
use Rattle.definitions.specs.declared.State.{State}
use Rattle.definitions.specs.declared.Sign.{Sign}
use Rattle.definitions.specs.declared.Corner.{Corner}
use Rattle.definitions.specs.declared.Corner.TheVariants.{Whole, Cut}
use Rattle.definitions.specs.Lattice.{InDomain, Step, are_neighbours, before, direction, id, leads, steps, vertices}
use Rattle.definitions.specs.Lists.{cliques}
use Rattle.definitions.specs.Vectors.{det}
use Rattle.definitions.specs.Facets.{fill}
use Rattle.definitions.specs.Stencils.{facets, kept}
use Rattle.definitions.specs.States.{sign_of_state}
use Rattle.definitions.specs.Pieces.{corner_key, middle, oriented, slot, swap_last_two}
use Rattle.definitions.specs.Tetrahedra.{IsLatticeTet, lattice_tets, tets_from}
use Rattle.definitions.specs.Mesh.{all_pieces, occurs, state_at, tet_pieces}
use Rattle.lattice_laws.specs.Ascending.{Has}
use Rattle.lattice_laws.specs.FiniteTests.{every_case}
use Rattle.lattice_laws.proofs.FiniteTests.{each_case}
use Rattle.lattice_laws.proofs.KeyOrder.{pieces_by_table, tet_ids_rise}
use Rattle.lattice_laws.proofs.ListedTetrahedra.{lattice_tets_listed}
use Rattle.lattice_laws.proofs.Members.{from_map, has_flat_map}
use Rattle.lattice_laws.proofs.Vertices.{has_vertex}
use Rattle.stencil_laws.specs.Cases.{case_pieces}
use Rattle.node_laws.proofs.Pieces.{lattice_tet_uses_nodes}
use Rattle.mesh_lists.specs.Parts.{keys_of_vertex}
use Rattle.mesh_lists.proofs.Sizes.{at_most_each, six_at_most, three_at_most}

-- the vertex of slot 0, or a cut on an edge from it
abbrev is_lowest : Corner → Bool
is_lowest (Whole a) = a == 0
is_lowest (Cut a b) = a == 0

abbrev begins_lowest : List Corner → Bool
begins_lowest [] = false
begins_lowest (c ∷ p) = is_lowest c

all_begin : every_case (λ signs. list_all begins_lowest (case_pieces signs)) ≡ true
unfolding fill facets kept
all_begin = refl

-- a direction is at most 7
place_within : (p : Step → Bool) (n : ℕ) (xs : List Step) → 0 < n → unwrap_or (position_from p n xs) 0 < n + length xs
place_within p n [] some = omega arith
place_within p n (x ∷ xs) some = go (p x) (place_within p (n + 1) xs (omega arith))
  where
    go : (b : Bool) → unwrap_or (position_from p (n + 1) xs) 0 < n + 1 + length xs → unwrap_or (cond b (Some n) (position_from p (n + 1) xs)) 0 < n + suc (length xs)
    go true h = omega arith
    go false h = omega arith

direction_small : (u w : Vertex) → direction u w < 8
unfolding direction
direction_small u w = place_within (λ s. leads s u w) 1 (drop 1 steps) (omega arith)

-- its key is one of those of the lowest vertex
module _ (tet : List Vertex) (ids : List ℕ) where
  lowest_key : (c : Corner) → is_lowest c ≡ true → (r : ℕ) × (r < 8) × (corner_key tet ids c ≡ 8 * get_or ids 0 0 + r)
  lowest_key (Whole a) e = let z : a ≡ 0 = eqb-true a 0 e in (0, omega arith, ap (λ n. 8 * get_or ids n 0) z ∙ add_none (8 * get_or ids 0 0))
    where
      add_none : (n : ℕ) → n ≡ n + 0
      add_none n = omega arith
  lowest_key (Cut a b) e = let z : a ≡ 0 = eqb-true a 0 e in (direction (slot tet a) (slot tet b), direction_small (slot tet a) (slot tet b), ap (λ n. 8 * get_or ids n 0 + direction (slot tet a) (slot tet b)) z)

  -- the first node of a piece, in its orientation
  begins_swapped : (p : List Corner) → begins_lowest (swap_last_two p) ≡ begins_lowest p
  begins_swapped [] = refl
  begins_swapped (a ∷ []) = refl
  begins_swapped (a ∷ b ∷ []) = refl
  begins_swapped (a ∷ b ∷ c ∷ []) = refl
  begins_swapped (a ∷ b ∷ c ∷ d ∷ []) = refl
  begins_swapped (a ∷ b ∷ c ∷ d ∷ e ∷ p) = refl

  begins_oriented : (p : List Corner) → begins_lowest p ≡ true → begins_lowest (oriented tet p) ≡ true
  unfolding oriented
  begins_oriented p e = go (int_lt (det (map (middle tet) p)) (pos 0))
    where
      go : (b : Bool) → begins_lowest (if b then swap_last_two p else p) ≡ true
      go true = begins_swapped p ∙ e
      go false = e

  -- such a key is in a list of keys of pieces
  begins_in : (q : List Corner) → begins_lowest q ≡ true → (key : ℕ) × (list_any (λ k. k == key) (map (corner_key tet ids) q) ≡ true) × ((r : ℕ) × (r < 8) × (key ≡ 8 * get_or ids 0 0 + r))
  begins_in [] e = cc
  begins_in (c ∷ q) e = (corner_key tet ids c, or_left (corner_key tet ids c == corner_key tet ids c) _ (eq-eqb (corner_key tet ids c) (corner_key tet ids c) refl), lowest_key c e)

  -- a list of pieces of which each begins so is empty, or has such a key
  no_pieces : (ps : List (List Corner)) → list_all begins_lowest ps ≡ true → (occ : ℕ → Bool) →
      ((key : ℕ) → occurs (map (λ p. map (corner_key tet ids) (oriented tet p)) ps) key ≡ true → occ key ≡ true) →
      list_any occ (keys_of_vertex (get_or ids 0 0)) ≡ false → map (λ p. map (corner_key tet ids) (oriented tet p)) ps ≡ []
  no_pieces [] e occ h none = refl
  no_pieces (p ∷ ps) e occ h none =
      let b = begins_in (oriented tet p) (begins_oriented p (and_parts (begins_lowest p) _ e).0) in
      let o : occ b.0 ≡ true = h b.0 (or_left (list_any (λ k. k == b.0) (map (corner_key tet ids) (oriented tet p))) _ b.1) in
      let r = b.2 in
      absurd (both_ways (list_any occ (keys_of_vertex (get_or ids 0 0))) none (list_any_at occ (keys_of_vertex (get_or ids 0 0)) r.0 0 (subst (λ n. r.0 < n) (sym (length-range_with_len (8 * get_or ids 0 0) 8)) r.1)
      (ap occ (get_or-range_with_len (8 * get_or ids 0 0) 8 r.0 0 r.1 ∙ sym r.2) ∙ o)))

module _ (d : Dims) (ss : List State) where
  abbrev occ : ℕ → Bool
  occ = occurs (all_pieces d ss)

  abbrev signs_of : List Vertex → List Sign
  signs_of tet = map (λ n. sign_of_state (state_at ss n)) (map (id d) tet)

  tet_without : (tet : List Vertex) → IsLatticeTet d tet → list_any occ (keys_of_vertex (get_or (map (id d) tet) 0 0)) ≡ false → tet_pieces d ss tet ≡ []
  unfolding tet_pieces
  tet_without tet t none =
      let ids = map (id d) tet in
      let table = pieces_by_table tet ids (signs_of tet) (tet_ids_rise d tet t) in
      let four : length (signs_of tet) ≡ 4 = length-map ids (λ n. sign_of_state (state_at ss n)) ∙ length-map tet (id d) ∙ t.four in
      table
      ∙ no_pieces tet ids (case_pieces (signs_of tet)) (each_case (λ signs. list_all begins_lowest (case_pieces signs)) all_begin (signs_of tet) four) occ
      (λ key h. lattice_tet_uses_nodes d ss tet key t (ap (λ ps. occurs ps key) table ∙ h)) none

  -- the pieces at a vertex where no node is
  all_without : (v : Vertex) (ts : List (List Vertex)) → ((tet : List Vertex) → Has tet ts → IsLatticeTet d tet × (get_or (map (id d) tet) 0 0 ≡ id d v)) → list_any occ (keys_of_vertex (id d v)) ≡ false → flat_map (tet_pieces d ss) ts ≡ []
  all_without v [] h none = refl
  all_without v (t ∷ ts) h none =
      let m = h t (inl refl) in
      (λ i. tet_without t m.0 (ap (λ n. list_any occ (keys_of_vertex n)) m.1 ∙ none) i ++ flat_map (tet_pieces d ss) ts) ∙ all_without v ts (λ u k. h u (inr k)) none

  pub from_lowest : (v : Vertex) (tet : List Vertex) → InDomain d v → Has tet (tets_from d v) → IsLatticeTet d tet
  unfolding lattice_tets
  from_lowest v tet inside m = (lattice_tets_listed d tet).0 (has_flat_map (tets_from d) v tet (vertices d) (has_vertex d v inside) m)

  lowest_is : (v : Vertex) (tet : List Vertex) → Has tet (tets_from d v) → get_or (map (id d) tet) 0 0 ≡ id d v
  unfolding tets_from
  lowest_is v tet m =
      let r = from_map (λ c. v ∷ c) tet (cliques are_neighbours 3 (filter (λ w. before v w && are_neighbours v w) (vertices d))) m in
      ap (λ t. get_or (map (id d) t) 0 0) (sym r.2)

  pub vertex_without : (v : Vertex) → InDomain d v → list_any occ (keys_of_vertex (id d v)) ≡ false → flat_map (tet_pieces d ss) (tets_from d v) ≡ []
  vertex_without v inside none = all_without v (tets_from d v) (λ tet m. (from_lowest v tet inside m, lowest_is v tet m)) none

  -- at most six tetrahedra, each in at most three pieces
  pub few_from : (v : Vertex) → InDomain d v → length (flat_map (tet_pieces d ss) (tets_from d v)) ≤ 18
  few_from v inside =
      let six = six_at_most d v in
      let three = at_most_each (tet_pieces d ss) 3 (tets_from d v) (λ tet m. three_at_most d ss tet (from_lowest v tet inside m)) in
      omega arith
