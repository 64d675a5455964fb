-- The numbers of the nodes of a lattice tetrahedron's pieces.
use Rattle.std.proofs.Common.{◌≡◌, ℕ, zero, suc, ◌+◌, ◌-◌, ◌*◌, ◌/◌, ◌<◌, ◌≤◌, ◌==◌, arith, refl, sym, ◌∙◌, ap, subst, Bool, true, cond, List, [], ◌∷◌, length, get_or, All, eq-eqb}
use Rattle.std.specs.Prelude.{filter}
use Rattle.std.specs.List.{list_any, range_with_len}
use Rattle.std.proofs.lemmas.List.Folds.{list_any_at}
use Rattle.definitions.specs.declared.Dims.{Dims}
use Rattle.definitions.specs.declared.Vertex.{Vertex}
use Rattle.definitions.specs.declared.State.{State}
use Rattle.definitions.specs.Lattice.{InDomain}
use Rattle.definitions.specs.Mesh.{ArePadded, all_pieces, node_keys, number_of, occurs, tet_pieces}
use Rattle.definitions.specs.Tetrahedra.{tets_from}
use Rattle.lattice_laws.specs.Ascending.{Has}
use Rattle.node_laws.proofs.NumbersLeadBack.{numbers_are_ranks}
use Rattle.node_laws.proofs.Ranks.{count_split}
use Rattle.node_laws.proofs.Standing.{keys_are_below}
use Rattle.vertex_numbers.specs.Numbering.{nodes_before}
use Rattle.mesh_lists.specs.Layers.{HoldLayers}
use Rattle.mesh_lists.specs.Parts.{keys_of_ids}
use Rattle.mesh_lists.proofs.Layers.{held}

module _ (d : Dims) (ss : List State) (padded : ArePadded d ss) where
  abbrev occ : ℕ → Bool
  occ = occurs (all_pieces d ss)

  -- ---- the numbers of nodes of these ids

  some_more : (p : ℕ → Bool) (key n : ℕ) → p key ≡ true → 0 < n → 0 < length (filter p (range_with_len key n))
  some_more p key zero e lt = absurd (omega arith)
  some_more p key (suc n) e lt = subst (λ b. 0 < length (cond b (key ∷ filter p (range_with_len (key + 1) n)) (filter p (range_with_len (key + 1) n)))) (sym e) (omega arith)

  numbers_between : (key a b : ℕ) → occ key ≡ true → a ≤ key / 8 → key / 8 < b → (nodes_before d ss a ≤ number_of (node_keys d ss) key) × (number_of (node_keys d ss) key < nodes_before d ss a + length (keys_of_ids d ss a (b - a)))
  unfolding nodes_before keys_of_ids
  numbers_between key a b o low high =
      let is = numbers_are_ranks d ss key o (keys_are_below d ss key padded o) in
      let begin : 0 + 8 * a ≡ 8 * a = omega arith in
      let front : 8 * a + (key - 8 * a) ≡ key = omega arith in
      let whole : (key - 8 * a) + (8 * b - key) ≡ 8 * (b - a) = omega arith in
      let one : length (filter occ (range_with_len 0 key)) ≡ length (filter occ (range_with_len 0 (8 * a))) + length (filter occ (range_with_len (8 * a) (key - 8 * a))) =
      ap (λ n. length (filter occ (range_with_len 0 n))) (sym front) ∙ count_split occ 0 (8 * a) (key - 8 * a) ∙ ap (λ n. length (filter occ (range_with_len 0 (8 * a))) + length (filter occ (range_with_len n (key - 8 * a)))) begin
      in
      let two : length (filter occ (range_with_len (8 * a) (8 * (b - a)))) ≡ length (filter occ (range_with_len (8 * a) (key - 8 * a))) + length (filter occ (range_with_len key (8 * b - key))) =
      ap (λ n. length (filter occ (range_with_len (8 * a) n))) (sym whole) ∙ count_split occ (8 * a) (key - 8 * a) (8 * b - key) ∙ ap (λ n. length (filter occ (range_with_len (8 * a) (key - 8 * a))) + length (filter occ (range_with_len n (8 * b - key)))) front
      in
      let more = some_more occ key (8 * b - key) o (omega arith) in
      bounds _ _ _ _ _ _ is one two more
    where
      bounds : (n k f x t m : ℕ) → n ≡ k → k ≡ f + x → t ≡ x + m → 0 < m → (f ≤ n) × (n < f + t)
      bounds n k f x t m e g h p = (omega arith, omega arith)

  -- the number of each key of a piece lies among those of the ids
  pub record IsNumbered (a b key : ℕ) : Type 0 where
    pub low : nodes_before d ss a ≤ number_of (node_keys d ss) key
    pub high : number_of (node_keys d ss) key < nodes_before d ss a + length (keys_of_ids d ss a (b - a))

  is_numbered : (v : Vertex) (tet : List Vertex) (key a b : ℕ) → InDomain d v → Has tet (tets_from d v) → HoldLayers d v.h a b → occurs (tet_pieces d ss tet) key ≡ true → IsNumbered a b key
  is_numbered v tet key a b inside m hold o =
      let k = held d ss padded v tet key a b inside m hold o in
      let r = numbers_between key a b k.0 k.1.0 k.1.1 in
      record { low = r.0; high = r.1 }

  pub piece_numbered : (a b : ℕ) (v : Vertex) → InDomain d v → (tet : List Vertex) → Has tet (tets_from d v) → HoldLayers d v.h a b → (i : ℕ) → i < length (tet_pieces d ss tet) → All (IsNumbered a b) (get_or (tet_pieces d ss tet) i [])
  piece_numbered a b v inside tet m hold i lt = λ k z kt. is_numbered v tet (get_or (get_or (tet_pieces d ss tet) i []) k z) a b inside m hold (occurs_in_piece k z kt)
    where
      occurs_in_piece : (k z : ℕ) → k < length (get_or (tet_pieces d ss tet) i []) → occurs (tet_pieces d ss tet) (get_or (get_or (tet_pieces d ss tet) i []) k z) ≡ true
      occurs_in_piece k z kt =
          let key = get_or (get_or (tet_pieces d ss tet) i []) k z in
          list_any_at (list_any (λ j. j == key)) (tet_pieces d ss tet) i [] lt (list_any_at (λ j. j == key) (get_or (tet_pieces d ss tet) i []) k z kt (eq-eqb key key refl))
