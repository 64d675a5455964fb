-- Two tetrahedra of the mesh share just the hull of their common nodes.
use Rattle.std.specs.Prelude.{ℕ, zero, suc, ◌+◌, ◌*◌, ◌<◌, true, nat_lt, List, [], ◌∷◌, length, map, sum, All}
use Rattle.std.proofs.Common.{◌≡◌, refl, sym, ap, subst, ◌∙◌, arith, inl, inr, ◌⊎◌}
use Rattle.std.proofs.Math.IntN.{ℤ, pos, ◌+ℤ◌, ◌*ℤ◌, neg_ℤ, nat_abs}
use Rattle.std.proofs.lemmas.Int.{ints}
use Rattle.std.proofs.lemmas.Bool.{ltb-true, lt-ltb, and_parts, and_from}
use Rattle.std.proofs.lemmas.List.{length-map}
use Rattle.std.proofs.lemmas.Simd.{map-map}
use lib.Signed.{◌<ℤ◌, ◌≤ℤ◌}
use borrow.Author.Differences.{below_in}
use Rattle.definitions.specs.declared.Vertex.{Vertex}
use Rattle.definitions.specs.declared.Place.{Place}
use Rattle.definitions.specs.declared.Corner.{Corner}
use Rattle.definitions.specs.declared.Corner.TheVariants.{Whole, Cut}
use Rattle.definitions.specs.Lattice.{id, vertex, direction}
use Rattle.definitions.specs.Values.{Field}
use Rattle.definitions.specs.States.{Shares, IsShares, state_of, states, sign_of_state}
use Rattle.definitions.specs.Tetrahedra.{IsLatticeTet}
use Rattle.definitions.specs.Pieces.{oriented, slot}
use Rattle.definitions.specs.Vectors.{place_at}
use Rattle.definitions.specs.Mesh.{mesh, node_keys, number_of}
use Rattle.definitions.specs.Soundness.{Meet, weight_of, weighted_place, corner_places}
use Rattle.exact.specs.Polynomials.{variable, constant, plus, times, negate, value_at}
use Rattle.exact.proofs.IntegerOrder.{size_of_nonnegative, product_positive}
use Rattle.exact.proofs.Ring.{ring}
use Rattle.lattice_laws.specs.Ascending.{Has}
use Rattle.lattice_laws.specs.Vectors.{Vector, vector, ◌+ᵥ◌, ◌*ᵥ◌}
use Rattle.lattice_laws.specs.Kinds.{Kind, Slot, slot_0, slot_1, slot_2, slot_3, number_of_slot, vector_of}
use Rattle.lattice_laws.proofs.Sublists.{all_by_place}
use Rattle.moved_lattice.specs.WeightedSums.{sum4, combination, total_weight, vertex_of, moved_place}
use Rattle.moved_lattice.proofs.VertexOrder.{ComesBefore, vertex_rising, in_order}
use Rattle.stencil_laws.specs.NodeRows.{cut_variable}
use Rattle.stencil_laws.specs.Weights.{weighted_sum, entry}
use Rattle.piece_laws.specs.Renaming.{renamed, cuts_of, vertex_at, lattice_weight, slot_weight}
use Rattle.piece_laws.specs.Laws.{AgreeAtNodes}
use Rattle.piece_laws.proofs.PiecesMeet.{in_slots, AreProper, proper_from_test, above_left, above_right, times_nonneg, entry_nonneg, entry_whole, entry_first, entry_second, sum_nonneg, moved_pieces_meet}
use Rattle.piece_laws.proofs.Renaming.{cut_at}
use Rattle.parent_laws.specs.Everywhere.{sign_on, displacement_on, cut_on}
use Rattle.parent_laws.specs.Parents.{signs_of, node_number, Parent, from_padding, IsNodePlace}
use Rattle.parent_laws.proofs.Distances.{displacements_small}
use Rattle.parent_laws.proofs.Everywhere.{cuts_fit}
use Rattle.parent_laws.proofs.Nodes.{IsPiece, id_slot, piece_is, nodes_stand_on_edges, parent_in_case}
use Rattle.parent_laws.proofs.Parents.{tets_have_parents}
use Rattle.sound_laws.specs.Laws.{TetsMeet}
use Rattle.sound_laws.proofs.Positive.{onto_origin}
use Rattle.sound_laws.proofs.Rows.{column, column_sum, column_place, sum_of_rows, place_of_rows}
use Rattle.sound_laws.proofs.Weights.{sum_same, sum_plus, sum_scaled, sum_of_ones, weighted_place_is, sum_of_slots, combination_of_slots, WhereWeighted, same_weights, renumbered, reordered}
use Rattle.lattice_laws.proofs.Members.{all_from_members}

-- ---- the parts of a node that the vertices have, of 4096
module _ (f : Field) (s : Shares) (b : Vector) (κ : Kind) where
  abbrev part : Slot → Corner → ℤ
  part j c = entry (cuts_of (cut_on f) (vertex_at b κ)) (number_of_slot j) c

  -- the moved vertices
  abbrev moved : Slot → Vector
  moved j = pos 4096 *ᵥ vertex_of b κ j +ᵥ displacement_on f s (vertex_of b κ j)

  two_parts : (k : ℤ) → (pos 4096 +ℤ neg_ℤ k) +ℤ k ≡ pos 4096
  two_parts k = omega (arith, ints)

  part_total : (c : Corner) (p : Vector) → IsNodePlace f s b κ p c → sum4 (λ j. part j c) ≡ pos 4096
  part_total (Whole a) p h = column_sum (cuts_of (cut_on f) (vertex_at b κ)) (constant (pos 4096)) a h.0
  part_total (Cut a c) p h =
      let r = cuts_of (cut_on f) (vertex_at b κ) in
      let x = plus (constant (pos 4096)) (negate (variable (cut_variable a c))) in
      let y = variable (cut_variable a c) in
      let lt = h.0 in
      let hc = h.1 in
      let ha : a < 4 = omega arith in
      sum_of_rows (column r x a) (column r y c) ∙ (λ i. column_sum r x a ha i +ℤ column_sum r y c hc i) ∙ two_parts (value_at r (cut_variable a c))

  part_place : (c : Corner) (p : Vector) → IsNodePlace f s b κ p c → combination (λ j. part j c) moved ≡ pos 4096 *ᵥ p
  part_place (Whole a) p h = column_place (cuts_of (cut_on f) (vertex_at b κ)) (constant (pos 4096)) moved a h.0 ∙ ap (λ v. pos 4096 *ᵥ v) (sym h.1)
  part_place (Cut a c) p h =
      let r = cuts_of (cut_on f) (vertex_at b κ) in
      let x = plus (constant (pos 4096)) (negate (variable (cut_variable a c))) in
      let y = variable (cut_variable a c) in
      let lt = h.0 in
      let hc = h.1 in
      let ha : a < 4 = omega arith in
      place_of_rows (column r x a) (column r y c) moved
      ∙ (λ i. column_place r x moved a ha i +ᵥ column_place r y moved c hc i)
      ∙ (λ i. (pos 4096 +ℤ neg_ℤ (cut_at (cut_on f) (vertex_at b κ) a c lt hc i)) *ᵥ onto_origin (pos 4096 *ᵥ vertex_at b κ a) (displacement_on f s (vertex_at b κ a)) h.2 i +ᵥ cut_at (cut_on f) (vertex_at b κ) a c lt hc i *ᵥ onto_origin (pos 4096 *ᵥ vertex_at b κ c) (displacement_on f s (vertex_at b κ c)) h.3 i)
      ∙ sym h.4

  -- parts are at least 0, and above 0 at a node's own slots
  abbrev at_slot : ℕ → Corner → ℤ
  at_slot j c = entry (cuts_of (cut_on f) (vertex_at b κ)) j c

  nonnegative : (j : ℕ) (c : Corner) → in_slots c ≡ true → pos 0 ≤ℤ at_slot j c
  nonnegative j c e = entry_nonneg (cut_on f) (cuts_fit f) (vertex_at b κ) j c (proper_from_test c e)

  -- the slots of a node
  abbrev OfNode : (ℕ → Type 0) → Corner → Type 0
  OfNode P (Whole a) = (a < 4) × P a
  OfNode P (Cut a c) = (a < c) × (c < 4) × P a × P c

  own_slots : (c : Corner) → in_slots c ≡ true → OfNode (λ j. pos 0 <ℤ at_slot j c) c
  own_slots (Whole a) e = (ltb-true a 4 e, entry_whole (cut_on f) (cuts_fit f) (vertex_at b κ) a)
  own_slots (Cut a c) e =
      let g = and_parts (nat_lt a c) (nat_lt c 4) e in
      let lt = ltb-true a c g.0 in
      let hc = ltb-true c 4 g.1 in
      (lt, hc, entry_first (cut_on f) (cuts_fit f) (vertex_at b κ) a c lt hc, entry_second (cut_on f) (cuts_fit f) (vertex_at b κ) a c lt hc)

  -- ---- sums over the nodes of a piece
  times_positive : (w : ℕ) (x : ℤ) → pos 0 <ℤ x → pos 0 <ℤ (pos (suc w) *ℤ x)
  times_positive w x h = product_positive (pos (suc w)) x (below_in _ _ (omega arith)) h

  are_proper : (l : List Corner) → ((c : Corner) → Has c l → in_slots c ≡ true) → AreProper l
  are_proper [] h = tt
  are_proper (c ∷ l) h = (proper_from_test c (h c (inl refl)), are_proper l (λ d m. h d (inr m)))

  sum_nonnegative : (j : ℕ) (ws : List ℕ) (l : List Corner) → ((c : Corner) → Has c l → in_slots c ≡ true) → pos 0 ≤ℤ weighted_sum ws l (at_slot j)
  sum_nonnegative j ws l h = sum_nonneg (cut_on f) (cuts_fit f) (vertex_at b κ) j ws l (are_proper l h)

  where_map : (P Q : Corner → Type 0) (ws : List ℕ) (l : List Corner) → ((c : Corner) → P c → Q c) → WhereWeighted P ws l → WhereWeighted Q ws l
  where_map P Q [] l g h = tt
  where_map P Q (w ∷ ws) [] g h = tt
  where_map P Q (w ∷ ws) (c ∷ l) g h = (elim h.0 [ inl z ↦ inl z | inr p ↦ inr (g c p) ], where_map P Q ws l g h.1)

  where_all : (P : Corner → Type 0) (ws : List ℕ) (l : List Corner) → ((c : Corner) → Has c l → P c) → WhereWeighted P ws l
  where_all P [] l h = tt
  where_all P (w ∷ ws) [] h = tt
  where_all P (w ∷ ws) (c ∷ l) h = (inr (h c (inl refl)), where_all P ws l (λ d m. h d (inr m)))

  -- where a node has a weight, the sums at its slots are above 0
  sums_above : (ws : List ℕ) (l : List Corner) → ((c : Corner) → Has c l → in_slots c ≡ true) → WhereWeighted (λ c. (j : ℕ) → pos 0 <ℤ at_slot j c → pos 0 <ℤ weighted_sum ws l (at_slot j)) ws l
  sums_above [] l h = tt
  sums_above (w ∷ ws) [] h = tt
  sums_above (w ∷ ws) (c ∷ l) h = (
    here w,
    where_map (λ d. (j : ℕ) → pos 0 <ℤ at_slot j d → pos 0 <ℤ weighted_sum ws l (at_slot j)) (λ d. (j : ℕ) → pos 0 <ℤ at_slot j d → pos 0 <ℤ weighted_sum (w ∷ ws) (c ∷ l) (at_slot j)) ws l
        (λ d g j p. above_right (pos w *ℤ at_slot j c) (weighted_sum ws l (at_slot j)) (times_nonneg w (at_slot j c) (nonnegative j c (h c (inl refl)))) (g j p))
        (sums_above ws l (λ d m. h d (inr m))),
  )
    where
      here : (w : ℕ) → (w ≡ 0) ⊎ ((j : ℕ) → pos 0 <ℤ at_slot j c → pos 0 <ℤ (pos w *ℤ at_slot j c +ℤ weighted_sum ws l (at_slot j)))
      here zero = inl refl
      here (suc m) = inr (λ j p. above_left (pos (suc m) *ℤ at_slot j c) (weighted_sum ws l (at_slot j)) (times_positive m (at_slot j c) p) (sum_nonnegative j ws l (λ d k. h d (inr k))))

  -- ---- the weights of the vertices, and the moved place
  module _ (p : List Corner) (ws : List ℕ) (slots : (c : Corner) → Has c p → in_slots c ≡ true) (g : Corner → Place) (stand : (c : Corner) → Has c p → IsNodePlace f s b κ (from_padding (g c)) c) (len : length ws ≡ length p) where
    abbrev weight : Slot → ℤ
    weight j = weighted_sum ws p (part j)

    is_size : (j : Slot) → pos (slot_weight (cut_on f) b κ ws p j) ≡ weight j
    is_size j = size_of_nonnegative (weight j) (sum_nonnegative (number_of_slot j) ws p slots)

    constant_sum : (k : ℤ) → weighted_sum ws p (λ c. pos 1 *ℤ k) ≡ pos (sum ws) *ℤ k
    constant_sum k = sum_scaled k (λ c. pos 1) ws p ∙ ap (λ x. x *ℤ k) (sum_of_ones ws p len)

    total : total_weight (slot_weight (cut_on f) b κ ws p) ≡ 4096 * sum ws
    total =
        go (slot_weight (cut_on f) b κ ws p slot_0) (slot_weight (cut_on f) b κ ws p slot_1) (slot_weight (cut_on f) b κ ws p slot_2) (slot_weight (cut_on f) b κ ws p slot_3) (sum ws)
        ((λ i. sum4 (λ j. is_size j i)) ∙ sum_of_slots part ws p ∙ sum_same (λ c. sum4 (λ j. part j c)) (λ c. pos 1 *ℤ pos 4096) ws p (λ c m. part_total c (from_padding (g c)) (stand c m)) ∙ constant_sum (pos 4096))
      where
        go : (x y z w n : ℕ) → pos x +ℤ pos y +ℤ pos z +ℤ pos w ≡ pos n *ℤ pos 4096 → x + y + z + w ≡ 4096 * n
        go x y z w n e = omega (arith, ints)

    -- one coordinate of the moved place
    coordinate : (m : Slot → ℤ) (h : Corner → ℤ) → ((c : Corner) → Has c p → sum4 (λ j. part j c *ℤ m j) ≡ pos 4096 *ℤ (h c +ℤ pos 8192))
        → sum4 (λ j. pos (slot_weight (cut_on f) b κ ws p j) *ℤ m j) ≡ (weighted_sum ws p h +ℤ pos (sum ws) *ℤ pos 8192) *ℤ pos 4096
    coordinate m h e =
        (λ i. sum4 (λ j. is_size j i *ℤ m j))
        ∙ combination_of_slots part m ws p
        ∙ sum_same (λ c. sum4 (λ j. part j c *ℤ m j)) (λ c. (h c +ℤ pos 1 *ℤ pos 8192) *ℤ pos 4096) ws p (λ c k. e c k ∙ flip (h c +ℤ pos 8192))
        ∙ sum_scaled (pos 4096) (λ c. h c +ℤ pos 1 *ℤ pos 8192) ws p
        ∙ ap (λ x. x *ℤ pos 4096) (sum_plus h (λ c. pos 1 *ℤ pos 8192) ws p ∙ ap (λ x. weighted_sum ws p h +ℤ x) (constant_sum (pos 8192)))
      where
        flip : (x : ℤ) → pos 4096 *ℤ x ≡ x *ℤ pos 4096
        flip x = ring (x ∷ []) (times (constant (pos 4096)) (variable 0)) (times (variable 0) (constant (pos 4096))) refl

    moved_is : moved_place (displacement_on f s) b κ (slot_weight (cut_on f) b κ ws p)
        ≡ vector ((weighted_sum ws p (λ c. (g c).x) +ℤ pos (sum ws) *ℤ pos 8192) *ℤ pos 4096) ((weighted_sum ws p (λ c. (g c).y) +ℤ pos (sum ws) *ℤ pos 8192) *ℤ pos 4096) ((weighted_sum ws p (λ c. (g c).z) +ℤ pos (sum ws) *ℤ pos 8192) *ℤ pos 4096)
    moved_is =
        λ i. vector
        (coordinate (λ j. (moved j).x) (λ c. (g c).x) (λ c m. ap (λ (v : Vector). v.x) (part_place c (from_padding (g c)) (stand c m))) i)
        (coordinate (λ j. (moved j).y) (λ c. (g c).y) (λ c m. ap (λ (v : Vector). v.y) (part_place c (from_padding (g c)) (stand c m))) i)
        (coordinate (λ j. (moved j).z) (λ c. (g c).z) (λ c m. ap (λ (v : Vector). v.z) (part_place c (from_padding (g c)) (stand c m))) i)

    -- by the weighted place
    moved_by_place : moved_place (displacement_on f s) b κ (slot_weight (cut_on f) b κ ws p)
        ≡ vector (((weighted_place (map g p) ws).x +ℤ pos (sum ws) *ℤ pos 8192) *ℤ pos 4096) (((weighted_place (map g p) ws).y +ℤ pos (sum ws) *ℤ pos 8192) *ℤ pos 4096) (((weighted_place (map g p) ws).z +ℤ pos (sum ws) *ℤ pos 8192) *ℤ pos 4096)
    moved_by_place = moved_is ∙ (λ i. let v = sym (weighted_place_is g ws p) i in vector ((v.x +ℤ pos (sum ws) *ℤ pos 8192) *ℤ pos 4096) ((v.y +ℤ pos (sum ws) *ℤ pos 8192) *ℤ pos 4096) ((v.z +ℤ pos (sum ws) *ℤ pos 8192) *ℤ pos 4096))

-- ---- nodes by their vertices
vertex_from_vector : (v w : Vertex) → vector_of v ≡ vector_of w → v ≡ w
vertex_from_vector v w e = λ i. vertex (go v.h w.h (ap (λ (u : Vector). u.z) e) i) (go v.y w.y (ap (λ (u : Vector). u.y) e) i) (go v.x w.x (ap (λ (u : Vector). u.x) e) i)
  where
    go : (m n : ℕ) → pos m ≡ pos n → m ≡ n
    go m n e = omega (arith, ints)

-- the number of a node, by its vertices
abbrev number_by : Field → Shares → (ℕ → Vertex) → Corner → ℕ
number_by f s u (Whole a) = number_of (node_keys f.dims (states f s)) (8 * id f.dims (u a))
number_by f s u (Cut a c) = number_of (node_keys f.dims (states f s)) (8 * id f.dims (u a) + direction (u a) (u c))

number_is : (f : Field) (s : Shares) (tet : List Vertex) → IsLatticeTet f.dims tet → (c : Corner) → in_slots c ≡ true → node_number f s tet c ≡ number_by f s (slot tet) c
number_is f s tet l (Whole a) e = ap (λ n. number_of (node_keys f.dims (states f s)) (8 * n)) (id_slot f tet l a (ltb-true a 4 e))
number_is f s tet l (Cut a c) e =
    let g = and_parts (nat_lt a c) (nat_lt c 4) e in
    let lt = ltb-true a c g.0 in
    let hc = ltb-true c 4 g.1 in
    ap (λ n. number_of (node_keys f.dims (states f s)) (8 * n + direction (slot tet a) (slot tet c))) (id_slot f tet l a (omega arith))

pub piece_of : (f : Field) (s : Shares) (t : List ℕ) (o : Parent f s t) → IsPiece (signs_of f s o.tet) o.piece
piece_of f s t o = piece_is (signs_of f s o.tet) o.piece (length-map o.tet (λ v. sign_of_state (state_of f s v)) ∙ o.lattice.four) (parent_in_case f s t o)

where_renamed : (μ : ℕ → ℕ) (ws : List ℕ) (l : List Corner) → WhereWeighted (λ c. in_slots (renamed μ c) ≡ true) ws l → WhereWeighted (λ c. in_slots c ≡ true) ws (map (renamed μ) l)
where_renamed μ [] [] h = tt
where_renamed μ [] (c ∷ l) h = tt
where_renamed μ (w ∷ ws) [] h = tt
where_renamed μ (w ∷ ws) (c ∷ l) h = (h.0, where_renamed μ ws l h.1)

not_none : (x : ℤ) → pos 0 <ℤ x → nat_abs x ≡ 0 → ⊥
not_none x h e = absurd (omega (arith, ints))

-- ---- two tetrahedra of the mesh
module _ (f : Field) (s : Shares) (ok : IsShares s) (t u : List ℕ) (o : Parent f s t) (q : Parent f s u) (wa wb : List ℕ) (la : length wa ≡ 4) (lb : length wb ≡ 4) (sums : sum wa ≡ sum wb) where
  abbrev places : List Place
  places = (mesh f s).places

  abbrev place_a : Corner → Place
  place_a c = place_at (mesh f s).places (node_number f s o.tet c)

  abbrev place_b : Corner → Place
  place_b c = place_at (mesh f s).places (node_number f s q.tet c)

  slots_a : (c : Corner) → Has c o.piece → in_slots c ≡ true
  slots_a c m = let p = piece_of f s t o in (p.nodes c m).0

  slots_b : (c : Corner) → Has c q.piece → in_slots c ≡ true
  slots_b c m = let p = piece_of f s u q in (p.nodes c m).0

  length_a : length wa ≡ length o.piece
  length_a = let p = piece_of f s t o in la ∙ sym p.four

  length_b : length wb ≡ length q.piece
  length_b = let p = piece_of f s u q in lb ∙ sym p.four

  module _ (same : weighted_place (map place_a o.piece) wa ≡ weighted_place (map place_b q.piece) wb) where
    agree : AgreeAtNodes (cut_on f) o.base o.kind q.base q.kind o.piece q.piece wa wb
    agree =
        moved_pieces_meet (displacement_on f s) (displacements_small f s ok) (sign_on f s) (cut_on f) (cuts_fit f) o.base o.kind q.base q.kind o.stands.on_lattice q.stands.on_lattice o.piece q.piece o.in_case q.in_case wa wb
        (total f s o.base o.kind o.piece wa slots_a place_a (nodes_stand_on_edges f s t o) length_a ∙ ap (λ n. 4096 * n) sums ∙ sym (total f s q.base q.kind q.piece wb slots_b place_b (nodes_stand_on_edges f s u q) length_b))
        (moved_by_place f s o.base o.kind o.piece wa slots_a place_a (nodes_stand_on_edges f s t o) length_a
        ∙ (λ i. vector (((same i).x +ℤ pos (sums i) *ℤ pos 8192) *ℤ pos 4096) (((same i).y +ℤ pos (sums i) *ℤ pos 8192) *ℤ pos 4096) (((same i).z +ℤ pos (sums i) *ℤ pos 8192) *ℤ pos 4096))
        ∙ sym (moved_by_place f s q.base q.kind q.piece wb slots_b place_b (nodes_stand_on_edges f s u q) length_b))

    -- where a node of the second has a weight, its vertices are the first's
    abbrev IsMatched : ℕ → Type 0
    IsMatched j = (agree.slots j < 4) × (vertex_at q.base q.kind j ≡ vertex_at o.base o.kind (agree.slots j))

    matched_slot : (j : ℕ) → j < 4 → pos 0 <ℤ weighted_sum wb q.piece (at_slot f s q.base q.kind j) → IsMatched j
    matched_slot j h p = agree.into j h (not_none (lattice_weight (cut_on f) q.base q.kind wb q.piece j) p)

    matched_node : (c : Corner) → in_slots c ≡ true → ((j : ℕ) → pos 0 <ℤ at_slot f s q.base q.kind j c → pos 0 <ℤ weighted_sum wb q.piece (at_slot f s q.base q.kind j)) → OfNode f s q.base q.kind IsMatched c
    matched_node (Whole a) e h = let w = own_slots f s q.base q.kind (Whole a) e in (w.0, matched_slot a w.0 (h a w.1))
    matched_node (Cut a c) e h =
        let w = own_slots f s q.base q.kind (Cut a c) e in
        let lt = w.0 in let hc = w.1 in
        (w.0, w.1, matched_slot a (omega arith) (h a w.2), matched_slot c w.1 (h c w.3))

    same_vertex : (j : ℕ) → j < 4 → IsMatched j → slot q.tet j ≡ slot o.tet (agree.slots j)
    same_vertex j h m = vertex_from_vector (slot q.tet j) (slot o.tet (agree.slots j)) (q.stands.slots j h ∙ m.1 ∙ sym (o.stands.slots (agree.slots j) m.0))

    rising : (a c : ℕ) → a < c → c < 4 → IsMatched a → IsMatched c → agree.slots a < agree.slots c
    rising a c lt hc m n =
        in_order o.base o.kind (agree.slots a) (agree.slots c) m.0 n.0
        (subst (λ (v : Vector). ComesBefore (vertex_at o.base o.kind (agree.slots a)) v) n.1 (subst (λ (v : Vector). ComesBefore v (vertex_at q.base q.kind c)) m.1 (vertex_rising q.base q.kind a c lt hc)))

    renamed_slots : (c : Corner) → OfNode f s q.base q.kind IsMatched c → in_slots (renamed agree.slots c) ≡ true
    renamed_slots (Whole a) h = lt-ltb (agree.slots a) 4 h.1.0
    renamed_slots (Cut a c) h = and_from (nat_lt (agree.slots a) (agree.slots c)) (nat_lt (agree.slots c) 4) (lt-ltb _ _ (rising a c h.0 h.1 h.2 h.3)) (lt-ltb _ _ h.3.0)

    renamed_number : (c : Corner) → in_slots c ≡ true → OfNode f s q.base q.kind IsMatched c → node_number f s q.tet c ≡ node_number f s o.tet (renamed agree.slots c)
    renamed_number c e h = number_is f s q.tet q.lattice c e ∙ (go c h ∙ sym (number_is f s o.tet o.lattice (renamed agree.slots c) (renamed_slots c h)))
      where
        go : (c : Corner) → OfNode f s q.base q.kind IsMatched c → number_by f s (slot q.tet) c ≡ number_by f s (slot o.tet) (renamed agree.slots c)
        go (Whole a) h = λ i. number_of (node_keys f.dims (states f s)) (8 * id f.dims (same_vertex a h.0 h.1 i))
        go (Cut a c) h =
            let lt = h.0 in let hc = h.1 in
            let ha : a < 4 = omega arith in
            λ i. number_of (node_keys f.dims (states f s)) (8 * id f.dims (same_vertex a ha h.2 i) + direction (same_vertex a ha h.2 i) (same_vertex c h.1 h.3 i))

    matched : WhereWeighted (λ c. (in_slots c ≡ true) × OfNode f s q.base q.kind IsMatched c) wb q.piece
    matched =
        both wb q.piece slots_b (sums_above f s q.base q.kind wb q.piece slots_b)
      where
        both : (ws : List ℕ) (l : List Corner) → ((c : Corner) → Has c l → in_slots c ≡ true) → WhereWeighted (λ c. (j : ℕ) → pos 0 <ℤ at_slot f s q.base q.kind j c → pos 0 <ℤ weighted_sum wb q.piece (at_slot f s q.base q.kind j)) ws l
            → WhereWeighted (λ c. (in_slots c ≡ true) × OfNode f s q.base q.kind IsMatched c) ws l
        both [] l g h = tt
        both (w ∷ ws) [] g h = tt
        both (w ∷ ws) (c ∷ l) g h = (elim h.0 [ inl z ↦ inl z | inr p ↦ inr (g c (inl refl), matched_node c (g c (inl refl)) p) ], both ws l (λ d m. g d (inr m)) h.1)

    weights_agree : (n : ℕ) → weight_of (map (node_number f s o.tet) o.piece) wa n ≡ weight_of (map (node_number f s q.tet) q.piece) wb n
    weights_agree n =
        same_weights (node_number f s o.tet) n wa wb o.piece (map (renamed agree.slots) q.piece)
        (where_all f s o.base o.kind (λ c. in_slots c ≡ true) wa o.piece slots_a)
        (where_renamed agree.slots wb q.piece (where_map f s o.base o.kind (λ c. (in_slots c ≡ true) × OfNode f s q.base q.kind IsMatched c) (λ c. in_slots (renamed agree.slots c) ≡ true) wb q.piece (λ c h. renamed_slots c h.1) matched))
        agree.weights
        ∙ sym (renumbered (node_number f s o.tet) n (node_number f s q.tet) agree.slots wb q.piece
        (where_map f s o.base o.kind (λ c. (in_slots c ≡ true) × OfNode f s q.base q.kind IsMatched c) (λ c. node_number f s q.tet c ≡ node_number f s o.tet (renamed agree.slots c)) wb q.piece (λ c h. renamed_number c h.0 h.1) matched))

-- any two tetrahedra of the mesh meet
parents_meet : (f : Field) (s : Shares) → IsShares s → (t u : List ℕ) → Parent f s t → Parent f s u → Meet (mesh f s).places t u
parents_meet f s ok t u o q wa wb la lb sums same n =
    let ra = reordered o.tet o.piece wa (let p = piece_of f s t o in p.four) la in
    let rb = reordered q.tet q.piece wb (let p = piece_of f s u q in p.four) lb in
    ap (λ l. weight_of l wa n) o.nodes
    ∙ ra.numbers (node_number f s o.tet) n
    ∙ weights_agree f s ok t u o q ra.weights rb.weights ra.four rb.four (ra.total ∙ sums ∙ sym rb.total)
    (sym (placed t o wa ∙ ra.places (λ c. place_at (mesh f s).places (node_number f s o.tet c))) ∙ same ∙ (placed u q wb ∙ rb.places (λ c. place_at (mesh f s).places (node_number f s q.tet c)))) n
    ∙ sym (ap (λ l. weight_of l wb n) q.nodes ∙ rb.numbers (node_number f s q.tet) n)
  where
    placed : (t : List ℕ) (o : Parent f s t) (ws : List ℕ) → weighted_place (corner_places (mesh f s).places t) ws ≡ weighted_place (map (λ c. place_at (mesh f s).places (node_number f s o.tet c)) (oriented o.tet o.piece)) ws
    placed t o ws = ap (λ l. weighted_place l ws) (ap (map (place_at (mesh f s).places)) o.nodes ∙ map-map (place_at (mesh f s).places) (node_number f s o.tet) (oriented o.tet o.piece))

pub tets_meet : TetsMeet
tets_meet f s ok =
    all_by_place (λ a. All (Meet (mesh f s).places a) (mesh f s).tets) (mesh f s).tets
    (all_from_members (λ a. All (Meet (mesh f s).places a) (mesh f s).tets) (mesh f s).tets
    (λ t m. all_by_place (Meet (mesh f s).places t) (mesh f s).tets
    (all_from_members (Meet (mesh f s).places t) (mesh f s).tets (λ u k. parents_meet f s ok t u (tets_have_parents f s t m) (tets_have_parents f s u k)))))
