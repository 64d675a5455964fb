-- How many pieces the lattice tetrahedra have of which a vertex is the lowest, by the signs around it.
use Rattle.std.proofs.Common.{◌≡◌, ℕ, ◌+◌, true, ◌==◌, List, [], ◌∷◌, length, map, Option, Some, None, refl, ap, ◌∙◌, inl, inr, arith}
use Rattle.std.specs.Prelude.{flat_map, filter_map, option_and_then}
use Rattle.std.specs.Option.{option_map}
use Rattle.std.specs.List.{cons_option}
use Rattle.std.proofs.lemmas.Bool.{eqb-true}
use Rattle.std.proofs.lemmas.List.{length-append, length-map}
use Rattle.definitions.specs.declared.Dims.{Dims}
use Rattle.definitions.specs.declared.Vertex.{Vertex}
use Rattle.definitions.specs.declared.State.{State}
use Rattle.definitions.specs.declared.Sign.{Sign}
use Rattle.definitions.specs.Lattice.{InDomain, id, are_neighbours, neighbour, vertices}
use Rattle.definitions.specs.States.{sign_of_state}
use Rattle.definitions.specs.Stencils.{facets, kept}
use Rattle.definitions.specs.Facets.{fill}
use Rattle.definitions.specs.Tetrahedra.{IsLatticeTet, lattice_tets, tets_from}
use Rattle.definitions.specs.Mesh.{state_at, tet_pieces}
use Rattle.lattice_laws.specs.Ascending.{Has}
use Rattle.lattice_laws.specs.FiniteTests.{every_case}
use Rattle.lattice_laws.proofs.FiniteTests.{each_case}
use Rattle.lattice_laws.proofs.KeyOrder.{tet_ids_rise}
use Rattle.lattice_laws.proofs.ListedTetrahedra.{lattice_tets_listed}
use Rattle.lattice_laws.proofs.Members.{has_flat_map}
use Rattle.lattice_laws.proofs.TetrahedraFromLowest.{adjacent, all_of, tets_by_triples, triples, vertex_in}
use Rattle.lattice_laws.proofs.Vertices.{has_vertex}
use Rattle.stencil_laws.specs.Cases.{case_pieces}
use Rattle.node_laws.specs.Used.{told}
use Rattle.node_laws.proofs.Pieces.{piece_counts_by_signs}
use Rattle.vertex_numbers.specs.Around.{sign_towards, pieces_of_signs, pieces_with, pieces_from}

-- ---- the number of pieces of each of the 81 cases

all_cases : every_case (λ signs. length (case_pieces signs) == pieces_of_signs signs) ≡ true
unfolding fill facets kept
all_cases = refl

count_of_case : (signs : List Sign) → length signs ≡ 4 → length (case_pieces signs) ≡ pieces_of_signs signs
count_of_case signs four = eqb-true (length (case_pieces signs)) (pieces_of_signs signs) (each_case (λ s. length (case_pieces s) == pieces_of_signs s) all_cases signs four)

-- ---- sums over the tetrahedra of a vertex

abbrev total : {X : Type 0} → (X → ℕ) → List X → ℕ
total f [] = 0
total f (x ∷ xs) = f x + total f xs

module _ (d : Dims) (ss : List State) where
  abbrev signs_of : List Vertex → List Sign
  signs_of tet = map (λ n. sign_of_state (state_at ss n)) (map (id d) tet)

  count_of_tet : (tet : List Vertex) → IsLatticeTet d tet → length (tet_pieces d ss tet) ≡ pieces_of_signs (signs_of tet)
  unfolding tet_pieces
  count_of_tet tet t =
      piece_counts_by_signs tet (map (id d) tet) (signs_of tet) (tet_ids_rise d tet t)
      ∙ count_of_case (signs_of tet) (length-map (map (id d) tet) (λ n. sign_of_state (state_at ss n)) ∙ length-map tet (id d) ∙ t.four)

  counts : (tets : List (List Vertex)) → ((t : List Vertex) → Has t tets → IsLatticeTet d t) → length (flat_map (tet_pieces d ss) tets) ≡ total (λ t. pieces_of_signs (signs_of t)) tets
  counts [] h = refl
  counts (t ∷ ts) h =
      length-append (tet_pieces d ss t) (flat_map (tet_pieces d ss) ts)
      ∙ (λ i. count_of_tet t (h t (inl refl)) i + counts ts (λ u k. h u (inr k)) i)

  module _ (v : Vertex) where
    abbrev three : List ℕ → Option (List Vertex)
    three c = all_of (vertex_in d v) are_neighbours adjacent c

    abbrev of_three : Option (List Vertex) → ℕ
    of_three None = 0
    of_three (Some t) = pieces_of_signs (signs_of (v ∷ t))

    of_triples : (cs : List (List ℕ)) → total (λ t. pieces_of_signs (signs_of t)) (map (λ c. v ∷ c) (filter_map three cs)) ≡ total (λ c. of_three (three c)) cs
    of_triples [] = refl
    of_triples (c ∷ cs) = front (three c) (filter_map three cs) ∙ ap (λ n. of_three (three c) + n) (of_triples cs)
      where
        front : (o : Option (List Vertex)) (ts : List (List Vertex)) → total (λ t. pieces_of_signs (signs_of t)) (map (λ c. v ∷ c) (cons_option o ts)) ≡ of_three o + total (λ t. pieces_of_signs (signs_of t)) (map (λ c. v ∷ c) ts)
        front None ts = zero_more (total (λ t. pieces_of_signs (signs_of t)) (map (λ c. v ∷ c) ts))
          where
            zero_more : (n : ℕ) → n ≡ 0 + n
            zero_more n = omega arith
        front (Some t) ts = refl

    of_options : (a b c : Option Vertex) →
        of_three (option_and_then (λ x. option_map (λ xs. x ∷ xs) (option_and_then (λ y. option_map (λ ys. y ∷ ys) (option_and_then (λ z. option_map (λ zs. z ∷ zs) (Some [])) c)) b)) a)
        ≡ pieces_with (sign_of_state (told d ss v)) (option_map (λ w. sign_of_state (told d ss w)) a) (option_map (λ w. sign_of_state (told d ss w)) b) (option_map (λ w. sign_of_state (told d ss w)) c)
    of_options None b c = refl
    of_options (Some a) None c = refl
    of_options (Some a) (Some b) None = refl
    of_options (Some a) (Some b) (Some c) = refl

    of_triple : (i j k : ℕ) → of_three (three (i ∷ j ∷ k ∷ [])) ≡ pieces_with (sign_of_state (told d ss v)) (sign_towards d (told d ss) v true i) (sign_towards d (told d ss) v true j) (sign_towards d (told d ss) v true k)
    of_triple i j k = of_options (neighbour d v i true) (neighbour d v j true) (neighbour d v k true)

    six : total (λ c. of_three (three c)) triples ≡ pieces_from d (told d ss) v
    six =
        (λ i. of_triple 1 4 6 i + (of_triple 2 5 6 i + (of_triple 3 4 7 i + (of_triple 3 5 7 i + (of_triple 4 6 7 i + (of_triple 5 6 7 i + 0))))))
        ∙ plain _ _ _ _ _ _
      where
        plain : (a b c e f g : ℕ) → a + (b + (c + (e + (f + (g + 0))))) ≡ a + b + c + e + f + g
        plain a b c e f g = omega arith

    -- the pieces of the tetrahedra of which v is the lowest vertex
    pub pieces_counted : InDomain d v → length (flat_map (tet_pieces d ss) (tets_from d v)) ≡ pieces_from d (told d ss) v
    unfolding lattice_tets
    pieces_counted inside =
        counts (tets_from d v) (λ t h. (lattice_tets_listed d t).0 (has_flat_map (tets_from d) v t (vertices d) (has_vertex d v inside) h))
        ∙ ap (total (λ t. pieces_of_signs (signs_of t))) (tets_by_triples d v)
        ∙ of_triples triples
        ∙ six
