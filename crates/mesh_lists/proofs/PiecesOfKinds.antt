-- The pieces of the six lattice tetrahedra of which a vertex with all its neighbours upwards is the lowest, kind by kind.
use Rattle.std.proofs.Common.{◌≡◌, ℕ, zero, suc, ◌+◌, ◌*◌, ◌%◌, ◌^◌, ◌<◌, ◌≤◌, inl, inr, arith, refl, sym, ◌∙◌, ap, subst, true, List, [], ◌∷◌, ◌++◌, map, length, get_or, take}
use Rattle.std.specs.Prelude.{OnOk, Result, count_ones, nat_lt, slice_index}
use lib.Count.{ones}
use Rattle.std.proofs.lemmas.Bool.{and_parts, ltb-true}
use Rattle.std.proofs.lemmas.Result.{on_ok_weaker}
use Rattle.definitions.specs.declared.Dims.{Dims}
use Rattle.definitions.specs.declared.State.{State}
use Rattle.definitions.specs.declared.Vertex.{Vertex}
use Rattle.definitions.specs.Lattice.{InDomain, direction, id}
use Rattle.definitions.specs.Mesh.{ArePadded, node_keys, number_of, state_at, tet_pieces}
use Rattle.definitions.specs.Pieces.{pieces}
use Rattle.definitions.specs.States.{sign_of_state}
use Rattle.definitions.specs.Tetrahedra.{IsLatticeTet, tets_from}
use Rattle.lattice_laws.specs.Ascending.{Has}
use Rattle.lattice_laws.specs.NumberedTetrahedra.{IsNumberedTet}
use Rattle.lattice_laws.proofs.EdgeSteps.{direction_of_step}
use Rattle.lattice_laws.proofs.KeyOrder.{tet_ids_rise}
use Rattle.lattice_laws.proofs.LaterNeighbours.{neighbour_to}
use Rattle.lattice_laws.proofs.Steps.{after_step_1, after_step_2, after_step_3, after_step_4, after_step_5}
use Rattle.lattice_laws.proofs.Sublists.{all_from_place}
use Rattle.stencils.specs.declared.Frame.{Frame}
use Rattle.stencils.specs.declared.Case.{Case}
use Rattle.stencils.specs.Cases.{IsCase, listed}
use Rattle.stencils.specs.Frames.{FitsFrame, IsFrameOfKind, are_directions, kind_number, ten_keys}
use Rattle.stencils.proofs.PiecesOfCases.{mapped_of_entry}
use Rattle.vertex_numbers.specs.declared.Later.{Later}
use Rattle.vertex_numbers.specs.declared.VertexNodes.{VertexNodes}
use Rattle.vertex_numbers.specs.Later.{AreLater}
use Rattle.vertex_numbers.specs.Numbering.{Numbering, number_in}
use Rattle.vertex_numbers.specs.VertexNodes.{AreNodesAt}
use Rattle.mesh_lists.specs.declared.kinds.TetVertex.{TetVertex}
use Rattle.mesh_lists.specs.Kinds.{AddsKind, AddsPieces, AreTetVertices, GivesTen, IsOfKind, IsTetVertex, pieces_in, tet_vertex_at}
use Rattle.mesh_lists.specs.Layers.{NumbersLayers}
use Rattle.mesh_lists.specs.Parts.{numbered_in}
use Rattle.mesh_lists.proofs.LowestNodes.{from_lowest}
use Rattle.mesh_lists.proofs.Pieces.{four_mapped, mapped_same, piece_numbers}
use Rattle.mesh_lists.proofs.WholeTetrahedra.{IsThere, kind_0, kind_1, kind_2, kind_3, kind_4, kind_5, six_tets, there_is}

-- ---- numbers of nodes at a vertex

-- of the vertex itself
pub own_number : (n : Numbering) (m : ℕ) (nodes : VertexNodes) → AreNodesAt n m nodes → nodes.before ≡ number_in n (8 * m)
unfolding ones
own_number n m nodes h = sym ((λ i. number_in n (plain i)) ∙ (h.number 0 (omega arith) ∙ nothing nodes.before nodes.bits))
  where
    plain : 8 * m ≡ 8 * m + 0
    plain = omega arith

    nothing : (b m : ℕ) → b + count_ones (m % 2 ^ 0) ≡ b
    nothing b m = let e : m % 1 ≡ 0 = omega arith in (λ i. b + count_ones (e i)) ∙ plus_none b
      where
        plus_none : (b : ℕ) → b + 0 ≡ b
        plus_none b = omega arith

-- a direction is below 8
pub direction_below : (directions : List ℕ) (k : ℕ) → are_directions directions ≡ true → k < length directions → slice_index directions k < 8
direction_below [] k e lt = absurd (omega arith)
direction_below (x ∷ xs) zero e lt = ltb-true x 8 (and_parts (nat_lt x 8) (are_directions xs) e).0
direction_below (x ∷ xs) (suc k) e lt = direction_below xs k (and_parts (nat_lt x 8) (are_directions xs) e).1 (omega arith)

-- the counts before a vertex and its neighbours upwards are small
pub few_before : (ss : List State) (n : Numbering) (m : ℕ) (later : Later) (ts : List TetVertex) → AreTetVertices ss n m later ts → (k : ℕ) → k < 8 → (tet_vertex_at ts k).nodes.before + 8 < 2 ^ 32
few_before ss n m later ts a zero lt = a.own.nodes.few
few_before ss n m later ts a (suc zero) lt = a.first.nodes.few
few_before ss n m later ts a (suc (suc zero)) lt = a.second.nodes.few
few_before ss n m later ts a (suc (suc (suc zero))) lt = a.third.nodes.few
few_before ss n m later ts a (suc (suc (suc (suc zero)))) lt = a.fourth.nodes.few
few_before ss n m later ts a (suc (suc (suc (suc (suc zero))))) lt = a.fifth.nodes.few
few_before ss n m later ts a (suc (suc (suc (suc (suc (suc zero)))))) lt = a.sixth.nodes.few
few_before ss n m later ts a (suc (suc (suc (suc (suc (suc (suc zero))))))) lt = a.seventh.nodes.few
few_before ss n m later ts a (suc (suc (suc (suc (suc (suc (suc (suc k)))))))) lt = absurd (omega arith)

-- ---- the pieces of a tetrahedron

-- its signs
pub four_signs : (ss : List State) (n : Numbering) (ids : List ℕ) (a b c d : TetVertex) → length ids ≡ 4 → IsTetVertex ss n (slice_index ids 0) a → IsTetVertex ss n (slice_index ids 1) b → IsTetVertex ss n (slice_index ids 2) c → IsTetVertex ss n (slice_index ids 3) d →
    a.sign ∷ b.sign ∷ c.sign ∷ d.sign ∷ [] ≡ map (λ i. sign_of_state (state_at ss i)) ids
four_signs ss n ids a b c d len p q r s = four_mapped (λ i. sign_of_state (state_at ss i)) ids a.sign b.sign c.sign d.sign len p.sign q.sign r.sign s.sign

module _ (ss : List State) (n : Numbering) (tet : List Vertex) (ids : List ℕ) (h : IsNumberedTet tet ids) (frame : Frame) (fits : FitsFrame tet frame) (a b c d : TetVertex) (p : IsTetVertex ss n (slice_index ids 0) a) (q : IsTetVertex ss n (slice_index ids 1) b) (r : IsTetVertex ss n (slice_index ids 2) c) (s : IsTetVertex ss n (slice_index ids 3) d) (case : Case) (entry : IsCase frame.is_turned (a.sign ∷ b.sign ∷ c.sign ∷ d.sign ∷ []) case) where
  -- by the places of an entry, and numbers at these
  pub pieces_of_entry : (ten : List ℕ) → ten ≡ map (number_in n) (ten_keys ids frame.directions) → map (map (λ k. slice_index ten k)) (listed case) ≡ pieces_in ss n tet ids
  pieces_of_entry ten e =
      mapped_of_entry (number_in n) tet ids (a.sign ∷ b.sign ∷ c.sign ∷ d.sign ∷ []) h refl frame fits case entry ten e
      ∙ (λ i. map (map (number_in n)) (pieces tet ids (four_signs ss n ids a b c d h.ids_four p q r s i)))

  -- none where the entry has none
  pub no_pieces : case.len ≡ 0 → pieces_in ss n tet ids ≡ []
  no_pieces e = sym (pieces_of_entry (map (number_in n) (ten_keys ids frame.directions)) refl) ∙ (λ i. map (map (λ k. slice_index (map (number_in n) (ten_keys ids frame.directions)) k)) (take (e i) case.of))

-- put behind others: of a frame
pub pieces_added : {T E : Type 0} (result : Result T E) (frame : Frame) (a b c d : TetVertex) (case : Case) (ten : List ℕ) (old new : List (List ℕ)) → IsCase frame.is_turned (a.sign ∷ b.sign ∷ c.sign ∷ d.sign ∷ []) case → GivesTen a.nodes b.nodes c.nodes d.nodes frame.directions ten →
    OnOk result (new ≡ old ++ map (map (λ k. slice_index ten k)) (listed case)) → OnOk result (AddsPieces frame a b c d old new)
pieces_added result frame a b c d case ten old new entry gives made =
    on_ok_weaker {P = new ≡ old ++ map (map (λ k. slice_index ten k)) (listed case)} {Q = AddsPieces frame a b c d old new} result
    (λ e. λ ss n tet ids h fits p q r s. e ∙ ap (λ ts. old ++ ts) (pieces_of_entry ss n tet ids h frame fits a b c d p q r s case entry ten (gives n ids p.nodes q.nodes r.nodes s.nodes)))
    made

-- and of a kind
pub kind_added : {T E : Type 0} (result : Result T E) (kind : ℕ) (frame : Frame) (ts : List TetVertex) (old new : List (List ℕ)) → IsFrameOfKind kind frame →
    OnOk result (AddsPieces frame (tet_vertex_at ts 0) (tet_vertex_at ts (slice_index frame.directions 0)) (tet_vertex_at ts (slice_index frame.directions 1)) (tet_vertex_at ts (slice_index frame.directions 2)) old new) → OnOk result (AddsKind kind ts old new)
kind_added result kind frame ts old new is_frame made =
    on_ok_weaker {P = AddsPieces frame (tet_vertex_at ts 0) (tet_vertex_at ts (slice_index frame.directions 0)) (tet_vertex_at ts (slice_index frame.directions 1)) (tet_vertex_at ts (slice_index frame.directions 2)) old new} {Q = AddsKind kind ts old new} result
    (λ e. λ ss n tet ids k.
    let fits : FitsFrame tet frame = is_frame tet ids k.numbered k.kind_is in
    e ss n tet ids k.numbered fits k.lowest
    (subst (λ (j : ℕ). IsTetVertex ss n (slice_index ids 1) (tet_vertex_at ts j)) (sym (ap (λ ds. slice_index ds 0) fits.directions)) k.first)
    (subst (λ (j : ℕ). IsTetVertex ss n (slice_index ids 2) (tet_vertex_at ts j)) (sym (ap (λ ds. slice_index ds 1) fits.directions)) k.second)
    (subst (λ (j : ℕ). IsTetVertex ss n (slice_index ids 3) (tet_vertex_at ts j)) (sym (ap (λ ds. slice_index ds 2) fits.directions)) k.third))
    made

-- ---- the six tetrahedra at a vertex

-- the pieces by numbers of a numbering are those by their numbers in the mesh
module _ (d : Dims) (ss : List State) (n : Numbering) (padded : ArePadded d ss) (v : Vertex) (h : NumbersLayers d ss v.h n) (inside : InDomain d v) where
  by_number : (tet : List Vertex) → Has tet (tets_from d v) → map (map (number_in n)) (tet_pieces d ss tet) ≡ numbered_in d ss tet
  by_number tet t =
      mapped_same (map (number_in n)) (map (number_of (node_keys d ss))) (tet_pieces d ss tet)
      (all_from_place (λ p. map (number_in n) p ≡ map (number_of (node_keys d ss)) p) (tet_pieces d ss tet) (λ m e lt. piece_numbers d ss n padded v h inside tet t m e lt))

  pub numbered_by : (tet : List Vertex) → Has tet (tets_from d v) → pieces_in ss n tet (map (id d) tet) ≡ numbered_in d ss tet
  unfolding tet_pieces
  numbered_by tet t = by_number tet t

module _ (d : Dims) (ss : List State) (n : Numbering) (v : Vertex) (inside : InDomain d v) (ids : Later) (l : AreLater d v ids) (ts : List TetVertex) (a : AreTetVertices ss n (id d v) ids ts) where
  upper : (dir m : ℕ) (t : IsThere d v dir m) → 1 ≤ dir → dir < 1 + 7 → IsTetVertex ss n m (tet_vertex_at ts dir) → IsTetVertex ss n (id d t.there) (tet_vertex_at ts (direction v t.there))
  upper dir m t low high p =
      subst (λ (k : ℕ). IsTetVertex ss n (id d t.there) (tet_vertex_at ts k)) (sym (direction_of_step dir v t.there low high (neighbour_to d v t.there dir t.leads).0))
      (subst (λ (i : ℕ). IsTetVertex ss n i (tet_vertex_at ts dir)) (sym t.number) p)

  abbrev IsUpper : Vertex → Type 0
  IsUpper w = IsTetVertex ss n (id d w) (tet_vertex_at ts (direction v w))

  of_kind : (kind : ℕ) (w1 w2 w3 : Vertex) → IsLatticeTet d (v ∷ w1 ∷ w2 ∷ w3 ∷ []) → kind_number v w1 w2 ≡ kind → IsUpper w1 → IsUpper w2 → IsUpper w3 → IsOfKind ss n ts kind (v ∷ w1 ∷ w2 ∷ w3 ∷ []) (map (id d) (v ∷ w1 ∷ w2 ∷ w3 ∷ []))
  of_kind kind w1 w2 w3 t e p q r = record { numbered = tet_ids_rise d (v ∷ w1 ∷ w2 ∷ w3 ∷ []) t; kind_is = e; lowest = a.own; first = p; second = q; third = r }

  abbrev IsKindAt : List (List Vertex) → ℕ → Type 0
  IsKindAt tets k = IsOfKind ss n ts k (get_or tets k []) (map (id d) (get_or tets k []))

  abbrev t1 : IsThere d v 1 ids.first
  t1 = there_is d v 1 ids.first l.first

  abbrev t2 : IsThere d v 2 ids.second
  t2 = there_is d v 2 ids.second l.second

  abbrev t3 : IsThere d v 3 ids.third
  t3 = there_is d v 3 ids.third l.third

  abbrev t4 : IsThere d v 4 ids.fourth
  t4 = there_is d v 4 ids.fourth l.fourth

  abbrev t5 : IsThere d v 5 ids.fifth
  t5 = there_is d v 5 ids.fifth l.fifth

  abbrev t6 : IsThere d v 6 ids.sixth
  t6 = there_is d v 6 ids.sixth l.sixth

  abbrev t7 : IsThere d v 7 ids.seventh
  t7 = there_is d v 7 ids.seventh l.seventh

  abbrev six : List (List Vertex)
  six = (v ∷ t1.there ∷ t4.there ∷ t6.there ∷ []) ∷ (v ∷ t2.there ∷ t5.there ∷ t6.there ∷ []) ∷ (v ∷ t3.there ∷ t4.there ∷ t7.there ∷ []) ∷ (v ∷ t3.there ∷ t5.there ∷ t7.there ∷ []) ∷ (v ∷ t4.there ∷ t6.there ∷ t7.there ∷ []) ∷ (v ∷ t5.there ∷ t6.there ∷ t7.there ∷ []) ∷ []

  listed_six : tets_from d v ≡ six
  listed_six = six_tets d ss v t1.there t2.there t3.there t4.there t5.there t6.there t7.there inside t1.leads t2.leads t3.leads t4.leads t5.leads t6.leads t7.leads

  u1 : IsUpper t1.there
  u1 = upper 1 ids.first t1 (omega arith) (omega arith) a.first

  u2 : IsUpper t2.there
  u2 = upper 2 ids.second t2 (omega arith) (omega arith) a.second

  u3 : IsUpper t3.there
  u3 = upper 3 ids.third t3 (omega arith) (omega arith) a.third

  u4 : IsUpper t4.there
  u4 = upper 4 ids.fourth t4 (omega arith) (omega arith) a.fourth

  u5 : IsUpper t5.there
  u5 = upper 5 ids.fifth t5 (omega arith) (omega arith) a.fifth

  u6 : IsUpper t6.there
  u6 = upper 6 ids.sixth t6 (omega arith) (omega arith) a.sixth

  u7 : IsUpper t7.there
  u7 = upper 7 ids.seventh t7 (omega arith) (omega arith) a.seventh

  lattice_of_six : (t : List Vertex) → Has t six → IsLatticeTet d t
  lattice_of_six t h = from_lowest d ss v t inside (subst (λ (xs : List (List Vertex)). Has t xs) (sym listed_six) h)

  kinds_of_six : (k : ℕ) → k < 6 → IsKindAt six k
  kinds_of_six zero lt =
      let s = after_step_1 v t1.there (neighbour_to d v t1.there 1 t1.leads).0 in
      of_kind 0 t1.there t4.there t6.there (lattice_of_six _ (inl refl)) (kind_0 v t1.there t4.there s.0 s.1) u1 u4 u6
  kinds_of_six (suc zero) lt =
      let s = after_step_2 v t2.there (neighbour_to d v t2.there 2 t2.leads).0 in
      of_kind 1 t2.there t5.there t6.there (lattice_of_six _ (inr (inl refl))) (kind_1 v t2.there t5.there s.0 s.1) u2 u5 u6
  kinds_of_six (suc (suc zero)) lt =
      let s = after_step_3 v t3.there (neighbour_to d v t3.there 3 t3.leads).0 in
      let r = after_step_4 v t4.there (neighbour_to d v t4.there 4 t4.leads).0 in
      of_kind 2 t3.there t4.there t7.there (lattice_of_six _ (inr (inr (inl refl)))) (kind_2 v t3.there t4.there s.0 s.1 s.2 r.1) u3 u4 u7
  kinds_of_six (suc (suc (suc zero))) lt =
      let s = after_step_3 v t3.there (neighbour_to d v t3.there 3 t3.leads).0 in
      let r = after_step_5 v t5.there (neighbour_to d v t5.there 5 t5.leads).0 in
      of_kind 3 t3.there t5.there t7.there (lattice_of_six _ (inr (inr (inr (inl refl))))) (kind_3 v t3.there t5.there s.0 s.1 s.2 r.1) u3 u5 u7
  kinds_of_six (suc (suc (suc (suc zero)))) lt =
      let s = after_step_4 v t4.there (neighbour_to d v t4.there 4 t4.leads).0 in
      of_kind 4 t4.there t6.there t7.there (lattice_of_six _ (inr (inr (inr (inr (inl refl)))))) (kind_4 v t4.there t6.there s.0 s.1 s.2) u4 u6 u7
  kinds_of_six (suc (suc (suc (suc (suc zero))))) lt =
      let s = after_step_5 v t5.there (neighbour_to d v t5.there 5 t5.leads).0 in
      of_kind 5 t5.there t6.there t7.there (lattice_of_six _ (inr (inr (inr (inr (inr (inl refl))))))) (kind_5 v t5.there t6.there s.0 s.1) u5 u6 u7
  kinds_of_six (suc (suc (suc (suc (suc (suc k)))))) lt = absurd (omega arith)

  -- there are six, and the one at place k is of kind k
  pub six_long : length (tets_from d v) ≡ 6
  six_long = ap length listed_six

  pub kinds_in_order : (k : ℕ) → k < 6 → IsOfKind ss n ts k (get_or (tets_from d v) k []) (map (id d) (get_or (tets_from d v) k []))
  kinds_in_order k lt = subst (λ (tets : List (List Vertex)). IsKindAt tets k) (sym listed_six) (kinds_of_six k lt)
