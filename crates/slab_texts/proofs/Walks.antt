-- The ids of the vertices of some layers.
use Rattle.std.proofs.Common.{◌≡◌, ℕ, ◌+◌, ◌<◌, ◌≤◌, ◌⊎◌, inl, inr, arith, sym, subst, length, min, List}
use Rattle.definitions.specs.declared.Dims.{Dims}
use Rattle.definitions.specs.declared.State.{State}
use Rattle.definitions.specs.Lattice.{layers, vertex_at, vertices}
use Rattle.definitions.specs.Layout.{layer_start}
use Rattle.lattice_laws.proofs.Laws.{ids_count_vertices}
use Rattle.node_laws.proofs.Layers.{all_start}
use Rattle.vertex_numbers.specs.Numbering.{Numbering, NumbersIds}
use Rattle.vertex_numbers.proofs.LayerStarts.{starts_rise}
use Rattle.mesh_lists.specs.Layers.{HoldLayers}
use Rattle.mesh_lists.proofs.Layers.{id_in_layer}

-- a numbering of the ids of some layers, by equal sizes
pub numbers_of_sizes : (e d : Dims) (ss : List State) (from to a b : ℕ) (n : Numbering) → e ≡ d → a ≡ layer_start d from → b ≡ layer_start d to → NumbersIds e ss (layer_start e from) (layer_start e to) n → NumbersIds d ss a b n
numbers_of_sizes e d ss from to a b n same start end is =
    subst (λ (y : ℕ). NumbersIds d ss a y n) (sym end) (subst (λ (x : ℕ). NumbersIds d ss x (layer_start d to) n) (sym start) (subst (λ (z : Dims). NumbersIds z ss (layer_start z from) (layer_start z to) n) same is))

-- the vertices of some layers have ids at which the layers, and the two above them, are held
pub hold_span : (d : Dims) (from to top n : ℕ) → from ≤ to → to ≤ layers d → top ≡ min (to + 2) (layers d) → layer_start d from ≤ n → n < layer_start d to → HoldLayers d (vertex_at d n).h (layer_start d from) (layer_start d top)
hold_span d from to top n le within e low high =
    let all = starts_rise d to (layers d) within (omega arith) in
    let end = all_start d in
    let lt : n < length (vertices d) = below n (layer_start d to) (layer_start d (layers d)) (length (vertices d)) high all end in
    let i = id_in_layer d n lt in
    let inside = ((ids_count_vertices d).inside n lt).h_below in
    let g = (vertex_at d n).h in
    let low' : from ≤ g = elim (either from g) [
      | inl p ↦ p
      | inr p ↦ (let r = starts_rise d (g + 1) from (omega arith) (omega arith) in absurd (clash n (layer_start d (g + 1)) (layer_start d from) i.1 r low))
    ]
    in
    let high' : g < to = elim (either to g) [
      | inl p ↦ (let r = starts_rise d to g p (omega arith) in absurd (clash n (layer_start d to) (layer_start d g) high r i.0))
      | inr p ↦ p
    ]
    in
    record {
      low = starts_rise d from g low' (omega arith);
      high = starts_rise d (min (g + 3) (layers d)) top (capped g to top (layers d) e high') (bounded (to + 2) top (layers d) e);
    }
  where
    below : (n s t l : ℕ) → n < s → s ≤ t → t ≡ l → n < l
    below n s t l a b c = omega arith

    either : (a b : ℕ) → (a ≤ b) ⊎ (b < a)
    either a b = grind arith

    clash : (n s t : ℕ) → n < s → s ≤ t → t ≤ n → ⊥
    clash n s t a b c = omega arith

    capped : (g to top l : ℕ) → top ≡ min (to + 2) l → g < to → min (g + 3) l ≤ top
    capped g to top l e h = omega arith

    bounded : (m top l : ℕ) → top ≡ min m l → top ≤ l
    bounded m top l e = omega arith

-- the first id of some layers and the first past them
pub span_within : (d : Dims) (from to start end : ℕ) → from < to → to ≤ layers d → start ≡ layer_start d from → end ≡ layer_start d to → (start ≤ end) × (end ≤ length (vertices d))
span_within d from to start end lt le s e =
    let a = starts_rise d from to (let h : from ≤ to = omega arith in h) le in
    let b = starts_rise d to (layers d) le (omega arith) in
    bounds start end (layer_start d from) (layer_start d to) (layer_start d (layers d)) (length (vertices d)) s e a b (all_start d)
  where
    bounds : (a b s t u l : ℕ) → a ≡ s → b ≡ t → s ≤ t → t ≤ u → u ≡ l → (a ≤ b) × (b ≤ l)
    bounds a b s t u l e f g h k = (omega arith, omega arith)
