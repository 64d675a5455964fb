-- The boundary triangles of the first tetrahedra, and the files by their first lines.
use Rattle.std.proofs.Common.{◌≡◌, ℕ, ◌+◌, ◌<◌, ◌≤◌, Bool, eqb, None, Option, refl, List, [], ◌∷◌, ◌++◌, length, map, take, drop, get_or, codes, decimal, sym, ap, ◌∙◌, subst, append_assoc, arith}
use Rattle.std.specs.Prelude.{filter, is_none}
use Rattle.std.specs.Option.{option_map}
use Rattle.std.proofs.lemmas.List.{take-append-drop, take_all}
use Rattle.std.proofs.lemmas.List.Concat.{flat_map-append}
use Rattle.std.proofs.lemmas.List.Elements.{filter-append}
use Rattle.definitions.specs.Soundness.{all_triangles, boundary, tets_at_triangle, triangles_of}
use Rattle.adjacency.specs.Laws.{NodesDiffer, ShareByTwo}
use Rattle.adjacency.specs.Neighbours.{neighbours}
use Rattle.adjacency.specs.Texts.{face_line, face_text, neigh_line, neigh_text}
use Rattle.node_ele_write.proofs.Pieces.{part_longer}
use Rattle.st_base.specs.Desk.{AppendsPart}
use Rattle.face_neigh.specs.Open.{one_if, open_triangles}
use Rattle.face_neigh.proofs.BoundaryTriangles.{faces_more}
use Rattle.face_neigh.proofs.Places.{fit_of}
use Rattle.face_files.specs.FileLines.{boundary_to, face_lines, face_to, neigh_lines, neigh_to}
use Rattle.face_files.proofs.Numbered.{lines_append, lines_more, lines_split, numbered_lines}

-- one tetrahedron more
pub boundary_more : (tets : List (List ℕ)) (across : List (List (Option ℕ))) (t : ℕ) → ((i : ℕ) → i < length tets → length (get_or tets i []) ≡ 4) → NodesDiffer tets → ShareByTwo tets → across ≡ neighbours tets → t < length tets →
    boundary_to tets (t + 1) ≡ boundary_to tets t ++ open_triangles (get_or tets t []) (get_or across t [])
boundary_more tets across t four differ by_two e lt =
    sym (ap (λ a. boundary_to tets t ++ open_triangles (get_or tets t []) (get_or a t [])) e ∙ faces_more tets (fit_of tets four differ by_two) t lt)

abbrev boundary_behind : List (List ℕ) → ℕ → List (List ℕ)
boundary_behind tets n = filter (λ (triangle : List ℕ). eqb (tets_at_triangle tets triangle) 1) (all_triangles (drop n tets))

boundary_split : (tets : List (List ℕ)) (n : ℕ) → boundary_to tets n ++ boundary_behind tets n ≡ boundary tets
boundary_split tets n =
    let on_edge : List ℕ → Bool = λ triangle. eqb (tets_at_triangle tets triangle) 1 in
    sym (filter-append on_edge (all_triangles (take n tets)) (all_triangles (drop n tets)))
    ∙ ap (filter on_edge) (sym (flat_map-append triangles_of (take n tets) (drop n tets)) ∙ ap all_triangles (take-append-drop n tets))

face_file : (first : ℕ) (faces : List (List ℕ)) → (decimal (length faces) ++ codes " 0\n") ++ face_lines first first faces ≡ face_text first faces
unfolding face_text
face_file first faces = ap (λ l. l ++ face_lines first first faces) (sym (append_assoc (decimal (length faces)) (codes " 0") (10 ∷ [])))

neigh_file : (first : ℕ) (across : List (List (Option ℕ))) → (decimal (length across) ++ codes " 4\n") ++ neigh_lines first across ≡ neigh_text first across
unfolding neigh_text
neigh_file first across = ap (λ l. l ++ neigh_lines first across) (sym (append_assoc (decimal (length across)) (codes " 4") (10 ∷ [])))

-- ---- a .neigh file up to a tetrahedron

pub neigh_more : (first n : ℕ) (across : List (List (Option ℕ))) → n < length across → neigh_to first across n ++ neigh_line (first + n, map (option_map (λ m. first + m)) (get_or across n [])) ≡ neigh_to first across (n + 1)
neigh_more first n across lt =
    append_assoc (decimal (length across) ++ codes " 4\n") _ _ ∙ ap (λ l. (decimal (length across) ++ codes " 4\n") ++ l) (lines_more neigh_line (map (option_map (λ m. first + m))) first n across [] lt)

neigh_split : (first n : ℕ) (across : List (List (Option ℕ))) → neigh_to first across n ++ numbered_lines neigh_line (map (option_map (λ m. first + m))) (first + length (take n across)) (drop n across) ≡ neigh_text first across
neigh_split first n across =
    append_assoc (decimal (length across) ++ codes " 4\n") _ _ ∙ ap (λ l. (decimal (length across) ++ codes " 4\n") ++ l) (lines_split neigh_line (map (option_map (λ m. first + m))) first n across) ∙ neigh_file first across

pub neigh_part : (first n : ℕ) (across : List (List (Option ℕ))) (a b : Option (List ℕ)) → AppendsPart a b (neigh_to first across n) → AppendsPart a b (neigh_text first across)
neigh_part first n across a b h = subst (λ t. AppendsPart a b t) (neigh_split first n across) (part_longer a b (neigh_to first across n) _ h)

pub neigh_all : (first n : ℕ) (across : List (List (Option ℕ))) → length across ≤ n → neigh_to first across n ≡ neigh_text first across
neigh_all first n across le = ap (λ l. (decimal (length across) ++ codes " 4\n") ++ neigh_lines first l) (take_all n across le) ∙ neigh_file first across

-- ---- a .face file up to a tetrahedron

module _ (first : ℕ) (tets : List (List ℕ)) (across : List (List (Option ℕ))) (four : (i : ℕ) → i < length tets → length (get_or tets i []) ≡ 4) (differ : NodesDiffer tets) (by_two : ShareByTwo tets) (are : across ≡ neighbours tets) where
  pub face_more : (n number : ℕ) → n < length tets → number ≡ first + length (boundary_to tets n) → face_to first tets n ++ face_lines first number (open_triangles (get_or tets n []) (get_or across n [])) ≡ face_to first tets (n + 1)
  face_more n number lt e =
      append_assoc (decimal (length (boundary tets)) ++ codes " 0\n") _ _
      ∙ ap (λ l. (decimal (length (boundary tets)) ++ codes " 0\n") ++ l)
      (ap (λ m. face_lines first first (boundary_to tets n) ++ face_lines first m (open_triangles (get_or tets n []) (get_or across n []))) e
      ∙ sym (lines_append face_line (map (λ m. first + m)) first (boundary_to tets n) (open_triangles (get_or tets n []) (get_or across n [])))
      ∙ ap (face_lines first first) (sym (boundary_more tets across n four differ by_two are lt)))

pub face_all : (first n : ℕ) (tets : List (List ℕ)) → length tets ≤ n → face_to first tets n ≡ face_text first (boundary tets)
face_all first n tets le =
    ap (λ l. (decimal (length (boundary tets)) ++ codes " 0\n") ++ face_lines first first (filter (λ (triangle : List ℕ). eqb (tets_at_triangle tets triangle) 1) (all_triangles l))) (take_all n tets le) ∙ face_file first (boundary tets)

face_split : (first n : ℕ) (tets : List (List ℕ)) → face_to first tets n ++ numbered_lines face_line (map (λ m. first + m)) (first + length (boundary_to tets n)) (boundary_behind tets n) ≡ face_text first (boundary tets)
face_split first n tets =
    append_assoc (decimal (length (boundary tets)) ++ codes " 0\n") _ _
    ∙ ap (λ l. (decimal (length (boundary tets)) ++ codes " 0\n") ++ l) (sym (lines_append face_line (map (λ m. first + m)) first (boundary_to tets n) (boundary_behind tets n)) ∙ ap (face_lines first first) (boundary_split tets n))
    ∙ face_file first (boundary tets)

pub face_part : (first n : ℕ) (tets : List (List ℕ)) (a b : Option (List ℕ)) → AppendsPart a b (face_to first tets n) → AppendsPart a b (face_text first (boundary tets))
face_part first n tets a b h = subst (λ t. AppendsPart a b t) (face_split first n tets) (part_longer a b (face_to first tets n) _ h)

-- the triangles of a tetrahedron without a neighbour, one by one
pub open_one_by_one : (tet : List ℕ) (across : List (Option ℕ)) → length tet ≡ 4 → open_triangles tet across
    ≡ one_if (is_none (get_or across 3 None)) (get_or tet 0 0 ∷ get_or tet 2 0 ∷ get_or tet 1 0 ∷ [])
    ++ (one_if (is_none (get_or across 2 None)) (get_or tet 0 0 ∷ get_or tet 1 0 ∷ get_or tet 3 0 ∷ [])
    ++ (one_if (is_none (get_or across 1 None)) (get_or tet 0 0 ∷ get_or tet 3 0 ∷ get_or tet 2 0 ∷ [])
    ++ (one_if (is_none (get_or across 0 None)) (get_or tet 1 0 ∷ get_or tet 2 0 ∷ get_or tet 3 0 ∷ []) ++ [])))
open_one_by_one (a ∷ b ∷ c ∷ d ∷ []) across len = refl
open_one_by_one [] across len = absurd (omega arith)
open_one_by_one (a ∷ []) across len = absurd (omega arith)
open_one_by_one (a ∷ b ∷ []) across len = absurd (omega arith)
open_one_by_one (a ∷ b ∷ c ∷ []) across len = absurd (omega arith)
open_one_by_one (a ∷ b ∷ c ∷ d ∷ e ∷ tet) across len = absurd (omega arith)
