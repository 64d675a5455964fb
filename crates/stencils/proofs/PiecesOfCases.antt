-- The pieces of a lattice tetrahedron are those of its signs and its orientation, with its keys filled in.
use Rattle.std.proofs.Common.{◌≡◌, ℕ, Bool, true, false, ◌&&◌, nat_lt, List, [], ◌∷◌, length, map, take, refl, sym, ap, subst, ◌∙◌, if◌then◌else◌}
use Rattle.std.specs.Prelude.{slice_index}
use Rattle.std.specs.List.{list_all}
use Rattle.std.proofs.lemmas.Bool.{ltb-true, and_parts}
use Rattle.std.proofs.lemmas.List.{get_or-map, length-map, take-map}
use Rattle.std.proofs.lemmas.Simd.{map-map}
use Rattle.definitions.specs.declared.Vertex.{Vertex}
use Rattle.definitions.specs.declared.Sign.{Sign}
use Rattle.definitions.specs.declared.Corner.{Corner}
use Rattle.definitions.specs.declared.Corner.TheVariants.{Whole}
use Rattle.definitions.specs.Facets.{fill}
use Rattle.definitions.specs.Stencils.{same_corner, corners, kept, facets}
use Rattle.definitions.specs.Pieces.{corner_key, oriented, pieces}
use Rattle.lattice_laws.specs.FiniteTests.{every_case}
use Rattle.lattice_laws.specs.Kinds.{Kind, kind_146}
use Rattle.lattice_laws.specs.Vectors.{Vector}
use Rattle.lattice_laws.specs.NumberedTetrahedra.{IsNumberedTet, is_corner}
use Rattle.lattice_laws.proofs.FiniteTests.{each_case}
use Rattle.lattice_laws.proofs.KeyOrder.{pieces_by_table}
use Rattle.stencils.specs.declared.cases.Case.{Case}
use Rattle.stencils.specs.declared.cases.Row.{Row}
use Rattle.stencils.specs.declared.frames.Frame.{Frame}
use Rattle.stencils.specs.Cases.{is_turned, model, case_pieces, corner_at, listed, has_places, IsCase, FitsCase}
use Rattle.stencils.specs.Frames.{ten_keys, edge_directions, FitsFrame}
use Rattle.lattice_laws.proofs.SamePieces.{same_piece, piece_from_same}
use Rattle.stencils.proofs.Translated.{IsMoved, is_four, oriented_same}
use Rattle.stencils.proofs.KindModels.{kind_model, has_kind}
use Rattle.stencils.proofs.FramesOfKinds.{turned_same}

-- ---- orientation: six kinds and 81 cases, by one computation each

abbrev is_as_model : List Vertex → Bool → List Corner → Bool
is_as_model base turned p = is_four p && same_piece (oriented base p) (oriented (model turned) p)

abbrev unoriented : List Sign → List (List Corner)
unoriented signs = fill same_corner (facets signs) (kept signs)

all_as_models : (κ : Kind) → every_case (λ signs. list_all (is_as_model (kind_model κ) (is_turned (kind_model κ))) (unoriented signs)) ≡ true
unfolding kept facets fill oriented
all_as_models kind_146 = refl
all_as_models κ = refl

module _ (tet base : List Vertex) (s : Vector) (m : IsMoved tet base s) (turned : Bool) where
  oriented_as_model : (ps : List (List Corner)) → list_all (is_as_model base turned) ps ≡ true → map (oriented tet) ps ≡ map (oriented (model turned)) ps
  oriented_as_model [] e = refl
  oriented_as_model (p ∷ ps) e =
      let f = and_parts (is_as_model base turned p) _ e in
      let g = and_parts (is_four p) _ f.0 in
      λ i. (oriented_same tet base s m p g.0 ∙ piece_from_same _ _ g.1) i ∷ oriented_as_model ps f.1 i

pub case_of_tet : (tet : List Vertex) (ids : List ℕ) (signs : List Sign) → IsNumberedTet tet ids → length signs ≡ 4 → map (oriented tet) (unoriented signs) ≡ case_pieces (is_turned tet) signs
unfolding case_pieces
case_of_tet tet ids signs h len =
    let k = has_kind tet ids h in
    let base = kind_model k.kind in
    let e = each_case (λ signs. list_all (is_as_model (kind_model k.kind) (is_turned (kind_model k.kind))) (unoriented signs)) (all_as_models k.kind) signs len in
    oriented_as_model tet base k.step k.moved (is_turned base) (unoriented signs) e
    ∙ (λ i. map (oriented (model (sym (turned_same tet base k.step k.moved) i))) (unoriented signs))

-- the pieces of the definition, by the case
pub pieces_of_case : (tet : List Vertex) (ids : List ℕ) (signs : List Sign) → IsNumberedTet tet ids → length signs ≡ 4 → pieces tet ids signs ≡ map (map (corner_key tet ids)) (case_pieces (is_turned tet) signs)
pieces_of_case tet ids signs h len =
    pieces_by_table tet ids signs h
    ∙ (sym (map-map (map (corner_key tet ids)) (oriented tet) (unoriented signs))
    ∙ ap (map (map (corner_key tet ids))) (case_of_tet tet ids signs h len))

-- ---- keys filled in

module _ (key : Corner → ℕ) where
  keys_of_places : (p : List ℕ) → list_all (λ n. nat_lt n 10) p ≡ true → map (λ n. slice_index (map key corners) n) p ≡ map key (map corner_at p)
  keys_of_places [] e = refl
  keys_of_places (n ∷ p) e =
      let f = and_parts (nat_lt n 10) _ e in
      let l = ltb-true _ _ f.0 in
      λ i. get_or-map key corners n (Whole 4) 0 l i ∷ keys_of_places p f.1 i

  keys_of_lists : (ps : List (List ℕ)) → list_all (list_all (λ n. nat_lt n 10)) ps ≡ true → map (map (λ n. slice_index (map key corners) n)) ps ≡ map (map key) (map (map corner_at) ps)
  keys_of_lists [] e = refl
  keys_of_lists (p ∷ ps) e =
      let f = and_parts (list_all (λ n. nat_lt n 10) p) _ e in
      λ i. keys_of_places p f.0 i ∷ keys_of_lists ps f.1 i

  -- an entry's places, as keys and as nodes
  pub keys_of_entry : (case : Case) → has_places case ≡ true → map (map (λ n. slice_index (map key corners) n)) (listed case) ≡ map (map key) (map (map corner_at) (listed case))
  keys_of_entry case e =
      sym (take-map (map (λ n. slice_index (map key corners) n)) case.len case.of)
      ∙ (ap (take case.len) (keys_of_lists case.of e)
      ∙ (take-map (map key) case.len (map (map corner_at) case.of)
      ∙ ap (map (map key)) (take-map (map corner_at) case.len case.of)))

pub ten_keys-of_edges : (tet : List Vertex) (ids : List ℕ) → ten_keys ids (edge_directions tet) ≡ map (corner_key tet ids) corners
ten_keys-of_edges tet ids = refl

-- nothing oriented is nothing
pub nothing_mapped : {X Y Z : Type 0} (f : X → Y) (g : X → Z) (xs : List X) → map f xs ≡ [] → map g xs ≡ []
nothing_mapped f g [] e = refl
nothing_mapped f g (x ∷ xs) e = cc

-- ---- a row of the table

pub entry_of : (signs : List Sign) (row : Row) → FitsCase signs row → (turned : Bool) → IsCase turned signs (if turned then row.turned else row.straight)
entry_of signs row fits true = fits.turned
entry_of signs row fits false = fits.straight

-- its pieces have the nodes that a tetrahedron can have
all_are_corners : (turned : Bool) → every_case (λ signs. list_all (list_all is_corner) (case_pieces turned signs)) ≡ true
unfolding kept facets fill oriented case_pieces
all_are_corners true = refl
all_are_corners false = refl

pub case_corners : (turned : Bool) (signs : List Sign) → length signs ≡ 4 → list_all (list_all is_corner) (case_pieces turned signs) ≡ true
case_corners turned signs len = each_case (λ signs. list_all (list_all is_corner) (case_pieces turned signs)) (all_are_corners turned) signs len

-- ---- at a tetrahedron

module _ (tet : List Vertex) (ids : List ℕ) (signs : List Sign) (h : IsNumberedTet tet ids) (len : length signs ≡ 4) (row : Row) (fits : FitsCase signs row) where
  -- where the row has no pieces, there are none
  pub nothing_of_row : row.straight.len ≡ 0 → [] ≡ pieces tet ids signs
  unfolding case_pieces
  nothing_of_row none =
      let e : map (oriented (model false)) (unoriented signs) ≡ [] = sym fits.straight.pieces ∙ (λ i. map (map corner_at) (take (none i) row.straight.of)) in
      sym (pieces_by_table tet ids signs h ∙ nothing_mapped (oriented (model false)) (λ p. map (corner_key tet ids) (oriented tet p)) (unoriented signs) e)

  module _ (frame : Frame) (case : Case) (f : FitsFrame tet frame) (is_entry : case ≡ (if frame.is_turned then row.turned else row.straight)) where
    entry_fits : IsCase (is_turned tet) signs case
    entry_fits = subst (λ (entry : Case). IsCase (is_turned tet) signs entry) (sym (is_entry ∙ (λ i. if f.turned i then row.turned else row.straight))) (entry_of signs row fits (is_turned tet))

    -- and else the pieces are those of its entry, with the keys filled in
    pub pieces_of_row : (keys : List ℕ) → keys ≡ ten_keys ids frame.directions → map (map (λ n. slice_index keys n)) (listed case) ≡ pieces tet ids signs
    pieces_of_row keys are_keys =
        let key = corner_key tet ids in
        let all : keys ≡ map key corners = are_keys ∙ ((λ i. ten_keys ids (f.directions i)) ∙ ten_keys-of_edges tet ids) in
        (λ i. map (map (λ n. slice_index (all i) n)) (listed case))
        ∙ (keys_of_entry key case entry_fits.places
        ∙ (ap (map (map key)) entry_fits.pieces
        ∙ sym (pieces_of_case tet ids signs h len)))

    pub len_of_row : case.len ≡ length (pieces tet ids signs)
    len_of_row =
        sym entry_fits.count
        ∙ (sym (length-map (listed case) (map corner_at))
        ∙ (ap length entry_fits.pieces
        ∙ (sym (length-map (case_pieces (is_turned tet) signs) (map (corner_key tet ids)))
        ∙ ap length (sym (pieces_of_case tet ids signs h len)))))

-- the pieces by a function of keys, as an entry's places among the values of this function at the ten keys
pub mapped_of_entry : (f : ℕ → ℕ) (tet : List Vertex) (ids : List ℕ) (signs : List Sign) → IsNumberedTet tet ids → length signs ≡ 4 → (frame : Frame) → FitsFrame tet frame → (case : Case) → IsCase frame.is_turned signs case →
    (ten : List ℕ) → ten ≡ map f (ten_keys ids frame.directions) → map (map (λ n. slice_index ten n)) (listed case) ≡ map (map f) (pieces tet ids signs)
mapped_of_entry f tet ids signs h len frame fits case is_entry ten are =
    let key = corner_key tet ids in
    let value = λ (c : Corner). f (corner_key tet ids c) in
    let all : ten ≡ map value corners = are ∙ (λ i. map f (ten_keys ids (fits.directions i))) in
    let entry : IsCase (is_turned tet) signs case = subst (λ (turned : Bool). IsCase turned signs case) fits.turned is_entry in
    let places = case_pieces (is_turned tet) signs in
    (λ i. map (map (λ n. slice_index (all i) n)) (listed case))
    ∙ (keys_of_entry value case entry.places
    ∙ (ap (map (map value)) entry.pieces
    ∙ ((λ i. map (λ p. sym (map-map f key p) i) places)
    ∙ (sym (map-map (map f) (map key) places)
    ∙ ap (map (map f)) (sym (pieces_of_case tet ids signs h len))))))
