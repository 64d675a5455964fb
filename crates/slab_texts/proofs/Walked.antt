-- Walks over vertices that have nodes: the others are the lowest vertices of no piece.
use Rattle.std.proofs.Common.{◌≡◌, ℕ, zero, suc, ◌+◌, ◌-◌, ◌*◌, ◌<◌, ◌≤◌, ◌||◌, arith, refl, ap, sym, ◌∙◌, Bool, false, List, [], ◌++◌, append-nil, length}
use Rattle.std.specs.Prelude.{flat_map, slice_index}
use Rattle.std.specs.List.{list_any, range_with_len}
use Rattle.definitions.specs.declared.Dims.{Dims}
use Rattle.definitions.specs.declared.State.{State}
use Rattle.definitions.specs.Lattice.{vertex_at, vertices}
use Rattle.definitions.specs.Mesh.{all_pieces, occurs}
use Rattle.vertex_numbers.specs.Numbering.{Numbering, TellsUsed}
use Rattle.mesh_lists.specs.Parts.{keys_of_vertex, numbered}
use Rattle.mesh_lists.proofs.LowestNodes.{vertex_without}
use Rattle.mesh_lists.proofs.NodePlaces.{none_by_bits}
use Rattle.mesh_lists.proofs.Walks.{in_walk}
use Rattle.slab_texts.specs.Nodes.{pieces_at}
use Rattle.slab_texts.proofs.Pieces.{ids_more}

none_occurs : (p : ℕ → Bool) (a n : ℕ) → ((k : ℕ) → k < n → p (a + k) ≡ false) → list_any p (range_with_len a n) ≡ false
none_occurs p a zero h = refl
none_occurs p a (suc n) h =
    ap (λ b. b || list_any p (range_with_len (a + 1) n)) (ap p (let e : a ≡ a + 0 = omega arith in e) ∙ h 0 (omega arith))
    ∙ none_occurs p (a + 1) n (λ k lt. ap p (one k) ∙ h (k + 1) (omega arith))
  where
    one : (k : ℕ) → a + 1 + k ≡ a + (k + 1)
    one k = omega arith

module _ (d : Dims) (ss : List State) (n : Numbering) (used : TellsUsed d ss n) where
  no_pieces : (m : ℕ) → m < length (vertices d) → n.first ≤ m → m < n.first + n.len → slice_index n.nodes (m - n.first) ≡ 0 → pieces_at d ss m ≡ []
  no_pieces m lt low high none =
      let h = in_walk d (vertex_at d m) m (length (vertices d)) lt (omega arith) (λ l. refl) in
      vertex_without d ss (vertex_at d m) h.domain
      (ap (λ k. list_any (occurs (all_pieces d ss)) (keys_of_vertex k)) (sym h.number) ∙ none_occurs (occurs (all_pieces d ss)) (8 * m) 8 (none_by_bits d ss n m used low high none))

  -- the pieces of some ids, and of more whose vertices have no nodes
  module _ (a b : ℕ) (le : a ≤ b) (low : n.first ≤ b) where
    pieces_over : (g : ℕ) → b + g ≤ length (vertices d) → b + g ≤ n.first + n.len → ((m : ℕ) → b ≤ m → m < b + g → slice_index n.nodes (m - n.first) ≡ 0) →
        numbered d ss (flat_map (pieces_at d ss) (range_with_len a (b - a))) ≡ numbered d ss (flat_map (pieces_at d ss) (range_with_len a (b + g - a)))
    pieces_over zero all within none = ap (λ m. numbered d ss (flat_map (pieces_at d ss) (range_with_len a (m - a)))) (let e : b ≡ b + 0 = omega arith in e)
    pieces_over (suc g) all within none =
        pieces_over g (omega arith) (omega arith) (λ m lo hi. none m lo (omega arith))
        ∙ sym (append-nil (numbered d ss (flat_map (pieces_at d ss) (range_with_len a (b + g - a)))))
        ∙ ap (λ ps. numbered d ss (flat_map (pieces_at d ss) (range_with_len a (b + g - a))) ++ numbered d ss ps) (sym (no_pieces (b + g) (omega arith) (omega arith) (omega arith) (none (b + g) (omega arith) (omega arith))))
        ∙ ids_more d ss (pieces_at d ss) a (b + g) (omega arith)
        ∙ ap (λ m. numbered d ss (flat_map (pieces_at d ss) (range_with_len a (m - a)))) (let e : b + g + 1 ≡ b + suc g = omega arith in e)

    pub pieces_past : (c : ℕ) → b ≤ c → c ≤ length (vertices d) → c ≤ n.first + n.len → ((m : ℕ) → b ≤ m → m < c → slice_index n.nodes (m - n.first) ≡ 0) →
        numbered d ss (flat_map (pieces_at d ss) (range_with_len a (b - a))) ≡ numbered d ss (flat_map (pieces_at d ss) (range_with_len a (c - a)))
    pieces_past c more all within none =
        let e : b + (c - b) ≡ c = omega arith in
        pieces_over (c - b) (omega arith) (omega arith) (λ m lo hi. none m lo (omega arith)) ∙ ap (λ k. numbered d ss (flat_map (pieces_at d ss) (range_with_len a (k - a)))) e
