-- The layer of an id, and the ids of a run of layers.
use Rattle.std.proofs.Common.{◌≡◌, ℕ, zero, suc, ◌+◌, ◌-◌, ◌<◌, ◌≤◌, ◌⊎◌, inl, inr, sym, ap, ◌∙◌, subst, ⊎_elim, arith, length}
use Rattle.definitions.specs.declared.Dims.{Dims}
use Rattle.definitions.specs.Lattice.{InDomain, vertices, vertex_at, layers, vertex}
use Rattle.definitions.specs.Layout.{layer_len, layer_start}
use Rattle.lattice_laws.proofs.Vertices.{id-vertex_at, from_vertices}
use Rattle.lattice_laws.proofs.Sublists.{has_at}
use Rattle.lattice_counts.specs.Counts.{below_layer, before_in_layer}
use Rattle.lattice_counts.proofs.Ranks.{start, rank, within_layer, below_grows, below_rises, all_length}

-- the layer of a vertex, and its place there
pub record IsOfLayer (d : Dims) (n h : ℕ) : Type 0 where
  pub layer : h < layers d
  pub from : layer_start d h ≤ n
  pub to : n < layer_start d h + layer_len d h

module _ (d : Dims) where
  inside : (n : ℕ) → n < length (vertices d) → InDomain d (vertex_at d n)
  inside n lt = from_vertices d (vertex_at d n) (has_at (vertices d) n (vertex 0 0 0) lt)

  pub of_layer : (n : ℕ) → n < length (vertices d) → IsOfLayer d n (vertex_at d n).h
  of_layer n lt =
      let k = inside n lt in
      let v = vertex_at d n in
      let e : below_layer d (vertex_at d n).h + before_in_layer d (vertex_at d n) ≡ n = sym (rank d v k) ∙ id-vertex_at d n lt in
      let h : (vertex_at d n).h < layers d = k.h_below in
      let s : layer_start d (vertex_at d n).h ≡ below_layer d (vertex_at d n).h = start d (vertex_at d n).h (omega arith) in
      let w : before_in_layer d (vertex_at d n) < layer_len d (vertex_at d n).h = within_layer d v k in
      record { layer = h; from = omega arith; to = omega arith }

  pub next_start : (h : ℕ) → h < layers d → layer_start d (h + 1) ≡ layer_start d h + layer_len d h
  next_start h lt = start d (h + 1) (omega arith) ∙ below_grows d h ∙ ap (λ (n : ℕ). n + layer_len d h) (sym (start d h (omega arith)))

  pub start_rises : (g h : ℕ) → g ≤ h → h ≤ layers d → layer_start d g ≤ layer_start d h
  start_rises g h le top =
      let r = below_rises d g (h - g) in
      let e : g + (h - g) ≡ h = omega arith in
      let a : layer_start d g ≡ below_layer d g = start d g (omega arith) in
      let b : layer_start d h ≡ below_layer d h = start d h top in
      let c : below_layer d g ≤ below_layer d h = subst (λ (n : ℕ). below_layer d g ≤ below_layer d n) e r in
      omega arith

  pub all_start : layer_start d (layers d) ≡ length (vertices d)
  all_start = start d (layers d) (omega arith) ∙ sym (all_length d)

  -- a layer's ids are those of vertices
  pub id_in_all : (h n : ℕ) → h < layers d → n < layer_start d h + layer_len d h → n < length (vertices d)
  id_in_all h n lt to =
      let s = next_start h lt in
      let r = start_rises (h + 1) (layers d) (omega arith) (omega arith) in
      let a = all_start in
      omega arith

  -- an id in a run of layers is of one of these
  pub in_run : (low high n : ℕ) → low ≤ high → high ≤ layers d → layer_start d low ≤ n → n < layer_start d high → (n < length (vertices d)) × (low ≤ (vertex_at d n).h) × ((vertex_at d n).h < high)
  in_run low high n le top from to =
      let a = all_start in
      let r = start_rises high (layers d) top (omega arith) in
      let lt : n < length (vertices d) = omega arith in
      let o = of_layer n lt in
      let g = (vertex_at d n).h in
      (lt, above (vertex_at d n).h o.layer o.to, below (vertex_at d n).h o.layer o.from)
    where
      split : (a b : ℕ) → (a ≤ b) ⊎ (b < a)
      split zero b = inl (omega arith)
      split (suc a) zero = inr (omega arith)
      split (suc a) (suc b) = ⊎_elim (λ (x : a ≤ b). inl (omega arith)) (λ (x : b < a). inr (omega arith)) (split a b)

      above : (g : ℕ) → g < layers d → n < layer_start d g + layer_len d g → low ≤ g
      above g layer to = ⊎_elim (λ (x : low ≤ g). x) (λ (x : g < low). let s = next_start g layer in let r = start_rises (g + 1) low (omega arith) (omega arith) in absurd (omega arith)) (split low g)

      below : (g : ℕ) → g < layers d → layer_start d g ≤ n → g < high
      below g layer from = ⊎_elim (λ (x : high ≤ g). let r = start_rises high g x (omega arith) in absurd (omega arith)) (λ (x : g < high). x) (split high g)
