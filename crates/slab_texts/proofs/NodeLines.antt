-- Lines of nodes, one after another.
use Rattle.std.proofs.Common.{◌≡◌, ℕ, zero, suc, ◌+◌, ◌-◌, ◌*◌, ◌<◌, ◌≤◌, ◌==◌, ◌||◌, ◌⊎◌, inl, inr, arith, refl, sym, ◌∙◌, ap, subst, Bool, true, false, cond, List, [], ◌∷◌, ◌++◌, All, map, length, length-append, append_assoc, append-nil}
use Rattle.std.specs.Prelude.{filter, if◌then◌else◌, not, slice_index}
use Rattle.std.specs.List.{AllByRecursion, range_with_len}
use Rattle.lattice_laws.proofs.Sublists.{all_from_place}
use Rattle.definitions.specs.declared.Place.{Place}
use Rattle.definitions.specs.declared.State.{State}
use Rattle.definitions.specs.declared.Vertex.{Vertex}
use Rattle.definitions.specs.Lattice.{vertex_at, vertices}
use Rattle.definitions.specs.Mesh.{ArePadded, all_pieces, node_keys, node_place, occurs, state_at}
use Rattle.definitions.specs.Places.{state_place}
use Rattle.definitions.specs.Soundness.{is_level_key}
use Rattle.definitions.specs.Stencils.{is_zero}
use Rattle.definitions.specs.States.{sign_of_state}
use Rattle.definitions.specs.Values.{Field}
use Rattle.formats.specs.declared.Frame.{Frame}
use Rattle.mesh_texts.specs.Lines.{node_line, node_lines}
use Rattle.mesh_texts.specs.Nodes.{Node, node_of_key}
use Rattle.std.proofs.lemmas.Bool.Decides.{nat_tests}
use Rattle.vertex_numbers.specs.Bits.{has_bit}
use Rattle.vertex_numbers.specs.Numbering.{Numbering, TellsUsed}
use Rattle.node_ele_write.specs.Printable.{IsPrintable}
use Rattle.node_laws.proofs.Standing.{keys_are_below}
use Rattle.mesh_lists.specs.Parts.{keys_at, mesh_of, place_on_edge}
use Rattle.mesh_lists.proofs.NodePlaces.{bits_tell, edge_place, key_direction, key_vertex, nodes_by_bits, vertex_place}
use Rattle.mesh_lists.proofs.NumberedLists.{numbered_append}
use Rattle.slab_texts.specs.declared.node_lines.NodeLines.{NodeLines}
use Rattle.slab_texts.specs.NodeLines.{AddsNodes, ArePrintable, edge_node, vertex_node}

module _ (frame : Frame) where
  pub no_nodes : (a : NodeLines) → AddsNodes frame a [] a
  no_nodes a = record { text = sym (append-nil a.text.items); number = (let e : a.number ≡ a.number + 0 = omega arith in e) }

  pub more_nodes : (a b c : NodeLines) (xs ys zs : List Node) → xs ++ ys ≡ zs → AddsNodes frame a xs b → AddsNodes frame b ys c → AddsNodes frame a zs c
  more_nodes a b c xs ys zs e h k =
      subst (λ (l : List Node). AddsNodes frame a l c) e
      (record {
        text =
            k.text ∙ (λ i. h.text i ++ node_lines frame (h.number i) ys) ∙ append_assoc a.text.items (node_lines frame a.number xs) (node_lines frame (a.number + length xs) ys)
            ∙ ap (λ l. a.text.items ++ l) (sym (numbered_append (node_line frame) a.number xs ys));
        number = (let f = k.number in let g = h.number in let l = length-append xs ys in omega arith);
      })

-- the nodes of a vertex by its bits
module _ (f : Field) (ss : List State) (n : Numbering) (v : Vertex) (id bits : ℕ) (used : TellsUsed f.dims ss n) (low : n.first ≤ id) (high : id < n.first + n.len) (at : vertex_at f.dims id ≡ v)
    (e : bits ≡ slice_index n.nodes (id - n.first)) where
  tell : (k : ℕ) → k < 8 → occurs (all_pieces f.dims ss) (8 * id + k) ≡ has_bit bits k
  tell k lt = bits_tell f.dims ss n id k used low high lt ∙ ap (λ b. has_bit b k) (sym e)

  level_at : (k : ℕ) → k < 8 → is_level_key ss (8 * id + k) ≡ (not (k == 0) || is_zero (sign_of_state (state_at ss id)))
  level_at k lt = λ i. not (key_direction id k lt i == 0) || is_zero (sign_of_state (state_at ss (key_vertex id k lt i)))

  positive : (k : ℕ) → 1 ≤ k → (k == 0) ≡ false
  positive k h = grind (arith, nat_tests)

  pub nodes_of_bits : (if has_bit bits 0 then vertex_node v (state_at ss id) ∷ [] else []) ++ map (edge_node f v) (filter (has_bit bits) (range_with_len 1 7)) ≡ map (node_of_key f ss) (keys_at f.dims ss id)
  nodes_of_bits =
      nodes_by_bits (occurs (all_pieces f.dims ss)) (node_of_key f ss) (edge_node f v) (vertex_node v (state_at ss id)) bits id tell
      (λ i. record { place = vertex_place f ss v id 0 at refl i; level = level_at 0 (omega arith) i })
      (λ k some lt. λ i. record { place = edge_place f ss v id k at some lt i; level = (level_at k lt ∙ ap (λ b. not b || is_zero (sign_of_state (state_at ss id))) (positive k some)) i })

  pub vertex_printable : (frame : Frame) → ArePrintable frame f ss → has_bit bits 0 ≡ true → IsPrintable frame (state_place v (state_at ss id))
  vertex_printable frame h b = subst (IsPrintable frame) (vertex_place f ss v id 0 at refl) (h (8 * id + 0) (tell 0 (omega arith) ∙ b))

  pub edge_printable : (frame : Frame) → ArePrintable frame f ss → (k : ℕ) → 1 ≤ k → k < 8 → has_bit bits k ≡ true → IsPrintable frame (place_on_edge f v k)
  edge_printable frame h k some lt b = subst (IsPrintable frame) (edge_place f ss v id k at some lt) (h (8 * id + k) (tell k lt ∙ b))

-- what holds of the places of all nodes holds of each
module _ (P : Place → Type 0) (p : ℕ → Bool) (g : ℕ → Place) where
  rest : (b : Bool) (a : ℕ) (ks : List ℕ) → AllByRecursion P (map g (cond b (a ∷ ks) ks)) → AllByRecursion P (map g ks)
  rest true a ks h = h.1
  rest false a ks h = h

  first : (b : Bool) (a : ℕ) (ks : List ℕ) → b ≡ true → AllByRecursion P (map g (cond b (a ∷ ks) ks)) → P (g a)
  first b a ks e h = (subst (λ c. AllByRecursion P (map g (cond c (a ∷ ks) ks))) e h).0

  either : (a key : ℕ) → a ≤ key → (a ≡ key) ⊎ (a + 1 ≤ key)
  either a key le = grind arith

  at_key : (a n key : ℕ) → a ≤ key → key < a + n → p key ≡ true → AllByRecursion P (map g (filter p (range_with_len a n))) → P (g key)
  at_key a zero key low high e h = absurd (omega arith)
  at_key a (suc n) key low high e h = elim (either a key low) [
    | inl same ↦ subst (λ k. P (g k)) same (first (p a) a (filter p (range_with_len (a + 1) n)) (ap p same ∙ e) h)
    | inr more ↦ at_key (a + 1) n key more (omega arith) e (rest (p a) a (filter p (range_with_len (a + 1) n)) h)
  ]

pub all_printable : (frame : Frame) (f : Field) (ss : List State) → ArePadded f.dims ss → All (IsPrintable frame) (mesh_of f ss).places → ArePrintable frame f ss
unfolding mesh_of node_keys
all_printable frame f ss padded h = λ key o.
    at_key (IsPrintable frame) (occurs (all_pieces f.dims ss)) (node_place f ss) 0 (8 * length (vertices f.dims)) key (omega arith) (let lt = keys_are_below f.dims ss key padded o in omega arith) o
    (all_from_place (IsPrintable frame) (map (node_place f ss) (filter (occurs (all_pieces f.dims ss)) (range_with_len 0 (8 * length (vertices f.dims))))) h)
